use Rattle.std.proofs.Common.{◌≡◌, ℕ, List, [], ◌++◌, Option, None, Some, IfSome, Result, Ok, Err, OnOk, OnErr, IfErr}
use Rattle.std.proofs.Common.{inl, inr, refl, sym, ◌∙◌, ap, subst, append_assoc, length, take}
use Rattle.std.proofs.KnownBytes.{Appends-nil, Appends-trans}
use Rattle.std.proofs.lemmas.List.{append-nil}
use Rattle.std.proofs.lemmas.Result.{IfErr-weaker, on_ok_weaker}
use Rattle.std.proofs.Math.Seq.{take-length}
use Rattle.std.specs.Io.KnownBytes.{Appends}
use Rattle.tendril_errors.specs.declared.refusal.Refusal.{Refusal}
use Rattle.tendril_errors.specs.declared.refusal.Refusal.TheVariants.{Io, Memory}
use Rattle.tendril_script.specs.Endings.{EndsProgram, RunEnded, RunStops, WritesFrontOfLines}
use Rattle.tendril_script.specs.HeldBack.{PrintsLines, PrintsSome}
use Rattle.tendril_script.specs.Sessions.{WritesLines, lines as lines_of}
use Rattle.tendril_script.specs.Writing.{AppendsFront, complaint}

-- all of the bytes are a prefix of them
pub whole_front : (before after : Option (List ℕ)) (bytes : List ℕ) → Appends before after bytes
    → AppendsFront before after bytes
whole_front before after bytes h = record { taken = bytes; rest = []; splits = sym (append-nil bytes); appends = h }

-- a write leaves a prefix, whether it fails or not
pub any_front : {T E : Type 0} (result : Result T E) (before after : Option (List ℕ)) (bytes : List ℕ)
    → OnOk result (Appends before after bytes) → OnErr result (AppendsFront before after bytes)
    → AppendsFront before after bytes
any_front (Ok x) before after bytes h k = whole_front before after bytes h
any_front (Err e) before after bytes h k = k

-- all of the first bytes and a prefix of more are a prefix of both
pub front_behind : (before mid after : Option (List ℕ)) (first more : List ℕ) → Appends before mid first
    → AppendsFront mid after more → AppendsFront before after (first ++ more)
front_behind before mid after first more h k = record {
  taken = first ++ k.taken;
  rest = k.rest;
  splits = ap (λ b. first ++ b) k.splits ∙ sym (append_assoc first k.taken k.rest);
  appends = Appends-trans before mid after first k.taken h k.appends;
}

-- a prefix of the first bytes is a prefix of both
pub front_of_first : (before after : Option (List ℕ)) (first more : List ℕ) → AppendsFront before after first
    → AppendsFront before after (first ++ more)
front_of_first before after first more k =
    record {
      taken = k.taken;
      rest = k.rest ++ more;
      splits = ap (λ b. b ++ more) k.splits
          ∙ append_assoc k.taken k.rest more;
      appends = k.appends;
    }

-- lines printed from one state on, and then a last write
module _ {S : Type 0} (answers : S → List ℕ → List ℕ → S → Type 0) (old : S) (before mid after : Option (List ℕ)) where
  -- all that is held back is written
  all_printed : (lines : List (List ℕ)) (new : S) (held : List ℕ)
      → PrintsLines answers old lines new before mid [] held → Appends mid after held
      → WritesLines answers old lines new before after
  all_printed lines new held h k = record {
    bytes = h.bytes;
    session = h.session;
    appends = subst (Appends before after) (sym h.passes.splits)
        (Appends-trans before mid after h.passes.taken held h.passes.appends k);
  }

  -- a prefix of what is held back is written
  front_printed : (lines : List (List ℕ)) (new : S) (held : List ℕ)
      → PrintsLines answers old lines new before mid [] held → AppendsFront mid after held
      → WritesFrontOfLines answers old lines new before after
  front_printed lines new held h k = record {
    bytes = h.bytes;
    session = h.session;
    front = subst (AppendsFront before after) (sym h.passes.splits)
        (front_behind before mid after h.passes.taken held h.passes.appends k);
  }

  -- the last write fails after an error
  some_front : (refusal : Refusal) (lines : List (List ℕ)) (new : S) (held : List ℕ)
      → PrintsSome answers old lines new before mid [] held refusal → AppendsFront mid after held
      → RunStops answers old lines new before after Io
  some_front Memory lines new held h k = (h.0, (h.1.0, (front_printed (take h.0 lines) h.1.0 held h.1.1.0 k, h.1.1.1)))
  some_front Io lines new held h k = (
    h.1.0,
    (
      new,
      (
        front_printed (take h.1.0 lines) new h.1.1.0 h.1.1.1
            (front_of_first mid after [] h.1.1.0 (subst (AppendsFront mid after) h.0 k)),
        inl refl,
      ),
    ),
  )
  some_front other lines new held h k = absurd h

  -- the last write fails, with or without an error before
  ran_front : {T : Type 0} (ran : Result T Refusal) (lines : List (List ℕ)) (new : S) (held : List ℕ)
      → OnOk ran (PrintsLines answers old lines new before mid [] held)
      → IfErr ran (PrintsSome answers old lines new before mid [] held) → AppendsFront mid after held
      → RunStops answers old lines new before after Io
  ran_front (Ok x) lines new held h e k = (
    length lines,
    (
      new,
      (
        front_printed (take (length lines) lines) new held
            (subst (λ l. PrintsLines answers old l new before mid [] held) (sym (take-length lines)) h) k,
        inl refl,
      ),
    ),
  )
  ran_front (Err r) lines new held h e k = some_front r lines new held e k

  -- the last write succeeds after an error
  some_written : (refusal : Refusal) (lines : List (List ℕ)) (new : S) (held : List ℕ)
      → PrintsSome answers old lines new before mid [] held refusal → Appends mid after held
      → RunStops answers old lines new before after refusal
  some_written Memory lines new held h k = (h.0, (h.1.0, (all_printed (take h.0 lines) h.1.0 held h.1.1.0 k, h.1.1.1)))
  some_written Io lines new held h k = some_front Io lines new held h (whole_front mid after held k)
  some_written other lines new held h k = absurd h

  -- a run; `printed` are the lines, and `none` is what was held back at first
  module _ {T : Type 0} (ran : Result T Refusal) (printed lines : List (List ℕ)) (new : S) (none held : List ℕ)
      (same : printed ≡ lines) (empty : none ≡ []) where
    lines_printed : OnOk ran (PrintsLines answers old printed new before mid none held)
        → OnOk ran (PrintsLines answers old lines new before mid [] held)
    lines_printed h = subst (λ l. OnOk ran (PrintsLines answers old l new before mid [] held)) same
        (subst (λ n. OnOk ran (PrintsLines answers old printed new before mid n held)) empty h)

    some_printed : IfErr ran (PrintsSome answers old printed new before mid none held)
        → IfErr ran (PrintsSome answers old lines new before mid [] held)
    some_printed k = subst (λ l. IfErr ran (PrintsSome answers old l new before mid [] held)) same
        (subst (λ n. IfErr ran (PrintsSome answers old printed new before mid n held)) empty k)

    -- the write after it fails
    pub ends_io : (refusal : Refusal) → refusal ≡ Io
        → OnOk ran (PrintsLines answers old printed new before mid none held)
        → IfErr ran (PrintsSome answers old printed new before mid none held) → AppendsFront mid after held
        → RunStops answers old lines new before after refusal
    ends_io refusal e h k f = subst (RunStops answers old lines new before after) (sym e)
        (ran_front ran lines new held (lines_printed h) (some_printed k) f)

    -- the run and the write succeed: all is written
    pub ends_ok : OnOk ran (PrintsLines answers old printed new before mid none held) → Appends mid after held
        → OnOk ran (WritesLines answers old lines new before after)
    ends_ok h k = on_ok_weaker ran (λ p. all_printed lines new held p k) (lines_printed h)

    -- the run returns an error and the write succeeds: what was printed before the error is written
    pub ends_err : IfErr ran (PrintsSome answers old printed new before mid none held) → Appends mid after held
        → IfErr ran (RunStops answers old lines new before after)
    ends_err h k = IfErr-weaker ran (PrintsSome answers old lines new before mid [] held)
        (RunStops answers old lines new before after) (λ r p. some_written r lines new held p k) (some_printed h)

module _ {S : Type 0} (answers : S → List ℕ → List ℕ → S → Type 0) where
  -- an error before the first line
  stops_at_once : (state : S) (lines : List (List ℕ)) (before : Option (List ℕ)) (refusal : Refusal)
      → EndsProgram refusal → RunStops answers state lines state before before refusal
  stops_at_once state lines before refusal (inl e) =
      subst (RunStops answers state lines state before before) (sym e)
      (0, (state, (record { bytes = []; session = (refl, refl); appends = Appends-nil before }, inl refl)))
  stops_at_once state lines before refusal (inr e) =
      subst (RunStops answers state lines state before before) (sym e) (
        0,
        (
          state,
          (
            record {
              bytes = [];
              session = (refl, refl);
              front =
                  whole_front before before [] (Appends-nil before);
            },
            inl refl,
          ),
        ),
      )

  -- an error before the first line, whatever the script is
  pub nothing_ran : (state : S) (remaining before : Option (List ℕ)) (refusal : Refusal) → EndsProgram refusal
      → IfSome remaining (λ script. RunStops answers state (lines_of script) state before before refusal)
  nothing_ran state None before refusal e = tt
  nothing_ran state (Some script) before refusal e = stops_at_once state (lines_of script) before refusal e

  -- an error of a run, where the script is the reader's remaining bytes
  pub stops_of : {T : Type 0} (old new : S) (ran : Result T Refusal) (script : List ℕ)
      (before after : Option (List ℕ)) (remaining : Option (List ℕ))
      → IfSome remaining (λ bytes. script ≡ bytes)
      → IfErr ran (RunStops answers old (lines_of script) new before after)
      → IfErr ran (λ r. IfSome remaining (λ bytes. RunStops answers old (lines_of bytes) new before after r))
  stops_of old new ran script before after None e h =
      IfErr-weaker ran (RunStops answers old (lines_of script) new before after) (λ _. Unit {0}) (λ r p. tt) h
  stops_of old new ran script before after (Some bytes) e h =
      IfErr-weaker ran (RunStops answers old (lines_of script) new before after)
      (RunStops answers old (lines_of bytes) new before after)
      (λ r p. subst (λ b. RunStops answers old (lines_of b) new before after r) e p) h

  -- `nothing_ran`, to some state
  nothing_ran_from : (state : S) (remaining before : Option (List ℕ)) (refusal : Refusal) → EndsProgram refusal
      → IfSome remaining (λ script. (new : S) × RunStops answers state (lines_of script) new before before refusal)
  nothing_ran_from state None before refusal e = tt
  nothing_ran_from state (Some script) before refusal e =
      (state, stops_at_once state (lines_of script) before refusal e)

  -- a program that is out of memory before its first line
  pub refused_first : (program : List ℕ) (first : S) (remaining before told told' : Option (List ℕ)) (refusal : Refusal)
      → refusal ≡ Memory → AppendsFront told told' (complaint program refusal)
      → RunEnded answers program first remaining before before told told'
  refused_first program first remaining before told told' refusal e tells =
      record {
        refusal = refusal;
        stops =
            record { ends = inl e; stops = nothing_ran_from first remaining before refusal (inl e) };
        tells = tells;
      }
