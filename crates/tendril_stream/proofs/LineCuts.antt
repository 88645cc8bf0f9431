-- Bytes with and without an LF.
use Rattle.std.proofs.Common.{◌≡◌, ◌↔◌, ℕ, ◌<◌, Bool, false, List, [], ◌∷◌, ◌++◌, length, take, drop, IsTrue, refl, sym}
use Rattle.std.proofs.Common.{ap, ap₂, subst, ◌∙◌, arith, inl, inr, append_assoc, length-take-le, length-drop}
use Rattle.std.proofs.Common.{take-append-drop, true≢false}
use Rattle.std.proofs.lemmas.Str.{IsUtf8-append}
use Rattle.std.specs.Prelude.{IfErr, IsUtf8, Result, Ok, Err}
use Rattle.memchr.specs.Find.{is_byte}
use Rattle.tendril_errors.specs.declared.refusal.Refusal.{Refusal}
use Rattle.tendril_errors.specs.declared.refusal.Refusal.TheVariants.{Count}
use Rattle.tendril_errors.specs.Outcomes.{LengthMust, MemoryMay, NoneMust, Outcome, Refused}
use Rattle.tendril_stream.specs.LineStarts.{CompletesLine}
use Rattle.tendril_stream.specs.Lines.{HasLongNextLine, JoinStops}
use Rattle.tendril_text.specs.Partings.{BothLong}
use Rattle.tendril_fmt.proofs.Pieces.{lacks-append, line_some, whole_line}
use Rattle.tendril_fmt.specs.Cuts.{EndsFirstLine, IsWholeLine, LacksFeed}
use Rattle.tendril_text.specs.Texts.{Text, PopCost}

-- bytes without an LF before a whole line are part of the line
pub line-append : (kept line : List ℕ) → LacksFeed kept → IsWholeLine line → IsWholeLine (kept ++ line)
line-append kept line lacks (words, ending, ends, is) = (
  kept ++ words,
  ending,
  (lacks-append (is_byte 10) kept words lacks ends.0, ends.1),
  ap (λ l. kept ++ l) is ∙ sym (append_assoc kept words ending),
)

-- the line and what follows it are long, and can't both share the block
pub split_stops : (bytes : List ℕ) (count : ℕ) (r : Refusal) → EndsFirstLine bytes count
    → Refused NoneMust (BothLong count (length bytes)) r → HasLongNextLine bytes bytes Count
split_stops bytes count r cut (inl h) = absurd h
split_stops bytes count r cut (inr h) =
    let long = h.1.1 in
    let many = h.1.2 in
    let size = length-take-le count bytes cut.within in
    let left = length-drop count bytes in
    record {
      line = take count bytes;
      after = drop count bytes;
      is = whole_line bytes count cut;
      front = sym (take-append-drop count bytes);
      behind = ([], refl);
      refusal = refl;
      long = omega (arith, long, size);
      many = omega (arith, many, left);
    }

-- a line couldn't be joined to what was kept
pub join_stops : (kept text slice : List ℕ) (count : ℕ) (r : Refusal) → slice ≡ text → EndsFirstLine text count
    → LacksFeed kept → 0 < length kept
    → Refused (LengthMust (length (kept ++ take count slice))) (MemoryMay (length (kept ++ take count slice))) r
    → JoinStops kept (kept ++ text) r
join_stops kept text slice count r same cut lacks some h = record {
  line = kept ++ take count slice;
  is = inl (
    line-append kept (take count slice) lacks
        (subst (λ b. IsWholeLine (take count b)) (sym same) (whole_line text count cut)),
    (
      drop count slice,
      ap (λ b. kept ++ b) (sym same ∙ sym (take-append-drop count slice))
          ∙ sym (append_assoc kept (take count slice) (drop count slice)),
    ),
  );
  some = some;
  refused = h;
}

-- bytes without an LF couldn't be joined to what was kept
pub keep_stops : (kept more : List ℕ) (old new : Text) (result : Result (Unit {0}) Refusal) → LacksFeed kept
    → LacksFeed more → 0 < length kept
    → Outcome (LengthMust (length (kept ++ more))) (MemoryMay (length (kept ++ more))) (λ _ t. t.bytes ≡ kept ++ more)
    old result new → IfErr result (JoinStops kept (kept ++ more))
keep_stops kept more old new (Ok u) lacks more_lacks some h = tt
keep_stops kept more old new (Err r) lacks more_lacks some h = record {
  line = kept ++ more;
  is = inr (lacks-append (is_byte 10) kept more lacks more_lacks, refl);
  some = some;
  refused = h.0;
}

-- the line was joined to what was kept
pub line_joined : (kept text line rest : Text) (slice : List ℕ) (count : ℕ) → slice ≡ text.bytes
    → EndsFirstLine text.bytes count → LacksFeed kept.bytes → 0 < length kept.bytes → IsUtf8 kept.bytes
    → line.bytes ≡ kept.bytes ++ take count slice → rest.bytes ≡ drop count text.bytes → PopCost text rest
    → CompletesLine kept text line rest
line_joined kept text line rest slice count same cut lacks some valid front left keeps =
    let is : line.bytes ≡ kept.bytes ++ take count text.bytes = front
    ∙ ap (λ b. kept.bytes ++ take count b) same in
    record {
      is = subst IsWholeLine (sym is) (line-append kept.bytes (take count text.bytes) lacks
          (whole_line text.bytes count cut));
      valid = subst IsUtf8 (sym is) (IsUtf8-append kept.bytes (take count text.bytes) valid cut.front_valid);
      whole = ap (λ b. kept.bytes ++ b) (sym (take-append-drop count text.bytes))
          ∙ sym (append_assoc kept.bytes (take count text.bytes) (drop count text.bytes))
          ∙ ap₂ (λ a b. a ++ b) (sym is) (sym left);
      behind = (
        take count text.bytes,
        sym (take-append-drop count text.bytes)
            ∙ ap (λ b. take count text.bytes ++ b) (sym left),
      );
      shorter = omega (arith, ap length left, length-drop count text.bytes, line_some text.bytes count cut, cut.within);
      share = λ none. absurd (omega (arith, some, ap length none));
      rest_shares = (λ long. inr (keeps.0 long), keeps.1);
    }

pub not_empty : (empty : Bool) (bytes : List ℕ) → IsTrue empty ↔ (bytes ≡ []) → empty ≡ false → 0 < length bytes
not_empty empty [] h is = absurd (true≢false (sym (h.1 refl) ∙ is))
not_empty empty (b ∷ bytes) h is = omega arith
