-- A pattern that was removed from the front of a queue.
use Rattle.std.proofs.Common.{◌≡◌, ℕ, List, ◌++◌, length, take, drop, sym, ap, ◌∙◌, subst}
use Rattle.std.specs.Prelude.{IsUtf8}
use Rattle.std.proofs.lemmas.List.{length-take-le, take-append-drop}
use Rattle.std.proofs.lemmas.Str.{IsUtf8-append}
use Rattle.tendril_queue.proofs.Fronts.{all_bytes, queued_valid}
use Rattle.tendril_queue.proofs.Sameness.{same_valid}
use Rattle.tendril_queue.specs.declared.eat.Case.{Case}
use Rattle.tendril_queue.specs.declared.eat.EatResult.{EatResult}
use Rattle.tendril_queue.specs.declared.eat.EatResult.TheVariants.{Eaten}
use Rattle.tendril_queue.specs.Eating.{AreSame, BeginsWith, Eats, IsEaten, Meets}
use Rattle.tendril_queue.specs.Queues.{Queued, queued_of, all_texts, IsQueue}
use Rattle.tendril_text.specs.TextLists.{bytes_of_all, DropsFront}
use Rattle.tendril_text.specs.Texts.{Text}

module _ (case : Case) (p pattern : List ℕ) (t : Text) (xs : List Text) (r : EatResult) (is : r ≡ Eaten) (met : Meets
    (AreSame case) p (t.bytes ++ bytes_of_all xs) r) (read : p ≡ pattern) where
  pub begins : BeginsWith (AreSame case) pattern (t.bytes ++ bytes_of_all xs)
  begins =
      subst (λ l. BeginsWith (AreSame case) l (t.bytes ++ bytes_of_all xs)) read
      (subst (λ e. Meets (AreSame case) p (t.bytes ++ bytes_of_all xs) e) is met)

  pub cut_valid : IsUtf8 pattern → IsQueue t xs → IsUtf8 (take (length pattern) (t.bytes ++ bytes_of_all xs))
  cut_valid valid q =
      same_valid case (t.bytes ++ bytes_of_all xs) pattern
      (IsUtf8-append t.bytes (bytes_of_all xs) q.valid (queued_valid xs q.each)) valid begins.within begins.is

  pub eaten : (s : Text) (ys : List Text) (old : Queued) → queued_of t xs ≡ old
      → s.bytes ++ bytes_of_all ys ≡ drop (length pattern) (t.bytes ++ bytes_of_all xs)
      → DropsFront (all_texts t xs) (all_texts s ys)
      → Eats (AreSame case) pattern old r (queued_of s ys)
  eaten s ys old view rest loses =
      let bytes = t.bytes ++ bytes_of_all xs in
      let had = queued_of t xs in
      let has = queued_of s ys in
      let made : IsEaten (AreSame case) pattern had has = record {
        front = take (length pattern) bytes;
        bytes = all_bytes t xs ∙ sym (take-append-drop (length pattern) bytes)
            ∙ ap (λ l. take (length pattern) bytes ++ l) (sym (all_bytes s ys ∙ rest));
        len = length-take-le (length pattern) bytes begins.within;
        is = begins.is;
        texts = loses;
      } in
      subst (λ q. Eats (AreSame case) pattern q r has) view
      (subst (λ e. Eats (AreSame case) pattern had e has) (sym is) made)
