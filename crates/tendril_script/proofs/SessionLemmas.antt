use Rattle.std.proofs.Common.{◌≡◌, ℕ, List, [], ◌∷◌, ◌++◌, Some, Result, Ok, Err, OnErr, inl, inr, refl, sym}
use Rattle.std.proofs.Common.{◌∙◌, ap, subst, append_assoc, arith, length, ◌<◌}
use Rattle.std.proofs.lemmas.List.{append-nil}
use Rattle.tendril_script.specs.Commands.{CommandAnswers}
use Rattle.tendril_script.specs.Sessions.{LinePrints, LineStops, Session, WritesLine}

module _ {S : Type 0} (answers : S → List ℕ → List ℕ → S → Type 0) where
  -- a session with one more line is a session
  pub session_more : (old mid new : S) (lines : List (List ℕ)) (line bytes more : List ℕ)
      → Session answers old lines bytes mid → LinePrints answers mid line more new
      → Session answers old (lines ++ line ∷ []) (bytes ++ more) new
  session_more old mid new [] line bytes more h w =
      let start : LinePrints answers old line more new = subst (λ s. LinePrints answers s line more new) h.1 w in
      let same : bytes ++ more ≡ more ++ [] = ap (λ b. b ++ more) h.0 ∙ sym (append-nil more) in
      (new, (more, ([], (start, ((refl, refl), same)))))
  session_more old mid new (first ∷ lines) line bytes more h w =
      let rest = h.1.1.0 in (
        h.0,
        (
          h.1.0,
          (
            rest ++ more,
            (
              h.1.1.1.0,
              (
                session_more h.0 mid new lines line rest more h.1.1.1.1.0 w,
                ap (λ b. b ++ more) h.1.1.1.1.1
                    ∙ append_assoc h.1.0 rest more,
              ),
            ),
          ),
        ),
      )

  -- for a line that isn't empty, its answer and a line feed are written
  pub line_written : (old new : S) (line text held held' : List ℕ) → 0 < length line → answers old line text new
      → held' ≡ held ++ (text ++ 10 ∷ []) → WritesLine answers old line new (Some held) (Some held')
  line_written old new [] text held held' some h e = absurd (omega arith)
  line_written old new (byte ∷ line) text held held' some h e =
      record { bytes = text ++ 10 ∷ []; writes = (text, (h, refl)); appends = e }

-- if the text of a reply can't be allocated, its command was carried out
pub reply_lost : {S C R T E : Type 0} (IsOf : C → List ℕ → Type 0) (Gives : S → C → R → S → Type 0)
    (text_of : R → List ℕ) (old new : S) (line : List ℕ) (command : C) (reply : R) (text : Result T E)
    → IsOf command line → Gives old command reply new
    → OnErr text (LineStops (CommandAnswers IsOf Gives text_of) old line new)
reply_lost IsOf Gives text_of old new line command reply (Ok text) is gives = tt
reply_lost IsOf Gives text_of old new line command reply (Err e) is gives =
    inr (text_of reply, inl record { command = command; reply = reply; is_line = is; replies = gives; prints = refl })
