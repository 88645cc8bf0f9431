-- Bytes that are written piece by piece.
use Rattle.std.proofs.Common.{◌≡◌, ℕ, List, [], ◌∷◌, ◌++◌, refl, sym, ap, ◌∙◌, append_assoc}
use Rattle.std.specs.Fmt.{HasWritten, HasWrittenStyled, IsFlush, IsPlainFormatter, WritesInCalls, formatter_writer}
use Rattle.std.specs.List.{concat}
use Rattle.std.specs.declared.fmt.Formatter.{Formatter}
use Rattle.tendril_text.proofs.Feeds.{FoldsTo-append}

concat_append : (xs ys : List (List ℕ)) → concat (xs ++ ys) ≡ concat xs ++ concat ys
concat_append [] ys = refl
concat_append (x ∷ xs) ys = ap (λ l. x ++ l) (concat_append xs ys) ∙ sym (append_assoc x (concat xs) (concat ys))

module _ {W : Type 0} (took : W → List ℕ → W → Type 0) where
  calls_none : (w : W) → WritesInCalls took w [] w
  calls_none w = record { parts = []; calls = refl; whole = refl }

  calls_both : (w : W) (a : List ℕ) (v : W) (b : List ℕ) (u : W) → WritesInCalls took w a v → WritesInCalls took v b u
      → WritesInCalls took w (a ++ b) u
  calls_both w a v b u p q = record {
    parts = p.parts ++ q.parts;
    calls = FoldsTo-append took w p.parts v q.parts u p.calls q.calls;
    whole = concat_append p.parts q.parts ∙ ap (λ l. l ++ concat q.parts) p.whole ∙ ap (λ l. a ++ l) q.whole;
  }

  pub written_none : (f : Formatter W) → IsPlainFormatter f → HasWritten took f [] f
  written_none f plain = record { wrote = calls_none (formatter_writer f); plain = plain }

  pub written_more : (f g h : Formatter W) (a b all : List ℕ) → all ≡ a ++ b → HasWritten took f a g
      → HasWritten took g b h → HasWritten took f all h
  written_more f g h a b all e p q =
      rw e (record {
        wrote = calls_both (formatter_writer f) a (formatter_writer g) b (formatter_writer h) p.wrote
            q.wrote;
        plain = q.plain;
      })

  pub styled_none : (f : Formatter W) → IsFlush f → HasWrittenStyled took f [] f
  styled_none f flush = record { wrote = calls_none (formatter_writer f); spec = refl; flush = flush }

  pub styled_more : (f g h : Formatter W) (a b all : List ℕ) → all ≡ a ++ b → HasWrittenStyled took f a g
      → HasWrittenStyled took g b h → HasWrittenStyled took f all h
  styled_more f g h a b all e p q =
      rw e (record {
        wrote = calls_both (formatter_writer f) a (formatter_writer g) b (formatter_writer h) p.wrote
            q.wrote;
        spec = q.spec ∙ p.spec;
        flush = q.flush;
      })
