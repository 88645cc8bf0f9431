-- A decoding is complete after the read that finds the end, and nothing is decoded before the first.
use Rattle.std.proofs.Common.{◌≡◌, ℕ, ◌<◌, Bool, false, List, [], ◌∷◌, ◌++◌, length, Option, None, Some, refl}
use Rattle.std.proofs.Common.{sym, ap, subst, ◌∙◌, arith, append-nil, length-append, inl, inr}
use Rattle.std.proofs.Common.{Result, Ok, Err, OnErr, IfErr}
use Rattle.std.proofs.KnownBytes.{Appends-nil}
use Rattle.std.proofs.lemmas.Str.{IsUtf8-nil, chars-nil}
use Rattle.std.specs.Io.KnownBytes.{Consumes, IsAtEnd}
use Rattle.std.specs.Prelude.{All}
use Rattle.tendril_errors.specs.declared.refusal.Refusal.{Refusal}
use Rattle.tendril_lossy.specs.Lossy.{characters}
use Rattle.tendril_stream.proofs.Fed.{given-push}
use Rattle.tendril_stream.specs.Decodings.{Decoding}
use Rattle.tendril_stream.specs.Reads.{OneRead, CameToEnd, MayReadOn, StopsWith, given}
use Rattle.tendril_transcode.specs.Transcodings.{BeginsStream, EndingStops, IsReady, Transcoded, TranscodesAll}
use Rattle.tendril_transcode.specs.Transcodings.{TranscodeStops, WritesFrontOfText, WritesText, chars_of_all}
use Rattle.tendril_transcode.specs.Transcodings.{chars_so_far}

-- the last read found the end
given_end : (these : List OneRead) → given (these ++ CameToEnd ∷ []) ≡ given these
given_end these = given-push these CameToEnd ∙ append-nil (given these)

stops_with_end : (these : List OneRead) → All MayReadOn these → StopsWith CameToEnd (these ++ CameToEnd ∷ [])
stops_with_end these on = record { before = these; on = on; is = refl }

module _ {K : Type 0} (decoding : Decoding K) (start : K) where
  pub decoded : (max_reads : ℕ) (these : List OneRead) (before after : Option (List ℕ)) → All MayReadOn these
      → length these < max_reads → WritesText (chars_of_all decoding start (given these)) before after
      → Transcoded decoding start max_reads (these ++ CameToEnd ∷ []) before after
  decoded max_reads these before after on some w = record {
    writes = subst (λ l. WritesText (chars_of_all decoding start l) before after) (sym (given_end these)) w;
    ends = stops_with_end these on;
    within = omega (arith, length-append these (CameToEnd ∷ []), some);
  }

  pub end_stops : (max_reads : ℕ) (these : List OneRead) (left before after : Option (List ℕ)) (r : Refusal)
      → All MayReadOn these → length these < max_reads → IsAtEnd left → EndingStops decoding start these before after r
      → TranscodeStops decoding start max_reads (these ++ CameToEnd ∷ []) left before after r
  end_stops max_reads these left before after r on some at_end (inl h) = inr (inr (inl (
    h.0,
    inr (
      subst (λ l. WritesFrontOfText (chars_of_all decoding start l) before after) (sym (given_end these)) h.1,
      at_end,
      stops_with_end these on,
    ),
    omega (arith, length-append these (CameToEnd ∷ []), some),
  )))
  end_stops max_reads these left before after r on some at_end (inr h) = inr (inr (inr record {
    rest = h.0;
    may = h.1;
    writes = subst (λ l. WritesText (chars_so_far decoding start l) before after) (sym (given_end these)) h.2;
    at_end = at_end;
    ends = stops_with_end these on;
    within = omega (arith, length-append these (CameToEnd ∷ []), some);
  }))

  -- nothing is read yet
  pub ready_first : BeginsStream decoding start → (known : Option (List ℕ)) (held : K) (unwritten : List ℕ)
      (failed : Bool) → held ≡ start → failed ≡ false → unwritten ≡ []
      → IsReady decoding start [] known known held failed unwritten
  ready_first begins known held unwritten failed h f u = record {
    writes = record {
      bytes = [];
      utf8 = IsUtf8-nil;
      spells = chars-nil ∙ sym (ap characters begins.out_none);
      appends = Appends-nil known;
    };
    keeps = h ∙ sym begins.after_none;
    goes_on = f;
    empty = u;
  }

  -- a reader at its end has given all its bytes, if these are known
  pub all_decoded : (input left before after : Option (List ℕ)) (read : List ℕ) → Consumes input left read
      → IsAtEnd left → WritesText (chars_of_all decoding start read) before after
      → TranscodesAll decoding start input before after
  all_decoded None left before after read gave end w = tt
  all_decoded (Some bytes) None before after read gave end w = absurd gave
  all_decoded (Some bytes) (Some more) before after read gave end w =
      subst (λ l. WritesText (chars_of_all decoding start l) before after)
      (sym (gave ∙ ap (λ l. read ++ l) end ∙ append-nil read)) w

-- two facts of a call that returned an error, combined
pub on_err : {T : Type 0} (result : Result T Refusal) (P : Refusal → Type 0) (A : Type 0) (Q : Refusal → Type 0)
    → ((r : Refusal) → P r → A → Q r) → IfErr result P → OnErr result A → IfErr result Q
on_err (Ok x) P A Q f h k = tt
on_err (Err r) P A Q f h k = f r h k
