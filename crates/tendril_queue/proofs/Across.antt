-- A pattern beside a first text and the rest.
use Rattle.std.proofs.Common.{
  ◌≡◌,
  ℕ,
  ◌+◌,
  ◌-◌,
  ◌<◌,
  ◌≤◌,
  List,
  [],
  ◌++◌,
  length,
  take,
  drop,
  refl,
  sym,
  ap,
  ap₂,
  ◌∙◌,
  subst,
  arith,
  append_assoc,
}
use Rattle.std.specs.Prelude.{IsUtf8}
use Rattle.std.proofs.Math.Seq.{take-append-add, drop-append-add}
use Rattle.std.proofs.lemmas.List.{length-append, length-take-le, length-drop, take-append-drop, take-append-le}
use Rattle.std.proofs.lemmas.Str.{IsUtf8-drop, IsCharBoundary-from_take}
use Rattle.tendril_queue.proofs.Dropped.{valid_after}
use Rattle.tendril_queue.proofs.Fronts.{all_bytes, all_none, first_some, leaves_first, loses}
use Rattle.tendril_queue.proofs.Sameness.{same_after, same_join}
use Rattle.tendril_queue.specs.declared.eat.Case.{Case}
use Rattle.tendril_queue.specs.declared.eat.EatResult.{EatResult}
use Rattle.tendril_queue.specs.declared.eat.EatResult.TheVariants.{Eaten, NotThere, NotKnown}
use Rattle.tendril_queue.specs.Eating.{AreSame, Meets}
use Rattle.tendril_queue.specs.Queues.{all_texts, IsQueue}
use Rattle.tendril_text.specs.TextLists.{bytes_of_all, unless_empty, DropsFront}
use Rattle.tendril_text.specs.Texts.{Text, PopCost}

-- the first text is within the pattern

module _ (case : Case) (text bytes pattern : List ℕ) (within : length text ≤ length pattern) where
  -- the rest of the pattern
  abbrev rest : List ℕ
  rest = drop (length text) pattern

  size : length (text ++ bytes) ≡ length text + length bytes
  size = length-append text bytes

  rest_size : length rest ≡ length pattern - length text
  rest_size = length-drop (length text) pattern

  front_size : length text ≡ length (take (length text) pattern)
  front_size = sym (length-take-le (length text) pattern within)

  cut : (n : ℕ) → take (length text + n) (text ++ bytes) ≡ text ++ take n bytes
  cut n = take-append-add text bytes n

  pattern_cut : (n : ℕ) → take (length text + n) pattern ≡ take (length text) pattern ++ take n rest
  pattern_cut n =
      ap₂ take (ap (λ m. m + n) front_size) (sym (take-append-drop (length text) pattern))
      ∙ take-append-add (take (length text) pattern) rest n

  pub met_after : (r : EatResult) → AreSame case text (take (length text) pattern) → Meets (AreSame case) rest bytes r
      → Meets (AreSame case) pattern (text ++ bytes) r
  met_after Eaten same h =
      let whole : length text + length rest ≡ length pattern = omega (arith, rest_size, within) in
      let short = h.within in
      record {
        within = omega (arith, size, whole, short);
        is = subst (λ m. AreSame case (take m (text ++ bytes)) pattern) whole
            (subst (λ l. AreSame case l pattern) (sym (cut (length rest)))
            (subst (λ l. AreSame case (text ++ take (length rest) bytes) l) (take-append-drop (length text) pattern)
            (same_join case text (take (length text) pattern) (take (length rest) bytes) rest same h.is)));
      }
  met_after NotThere same h =
      let short = h.within in
      let in_rest = h.in_pattern in
      record {
        count = length text + h.count;
        within = omega (arith, size, short);
        in_pattern = omega (arith, rest_size, within, in_rest);
        other = λ both. h.other (same_after case text (take (length text) pattern) (take h.count bytes)
            (take h.count rest)
            front_size
            (subst (λ l. AreSame case (text ++ take h.count bytes) l) (pattern_cut h.count)
            (subst (λ l. AreSame case l (take (length text + h.count) pattern)) (cut h.count) both)));
      }
  met_after NotKnown same h =
      let short = h.short in
      record {
        short = omega (arith, size, rest_size, within, short);
        so_far = subst (λ m. AreSame case (text ++ bytes) (take m pattern)) (sym size)
            (subst (λ l. AreSame case (text ++ bytes) l) (sym (pattern_cut (length bytes)))
            (same_join case text (take (length text) pattern) bytes (take (length bytes) rest) same h.so_far));
      }

-- bytes were dropped of the first text, and some of it are left

module _ (t : Text) (xs : List Text) (count : ℕ) (q : IsQueue t xs) (short : count < length t.bytes)
    (valid : IsUtf8 (take count (t.bytes ++ bytes_of_all xs))) where
  pub left_valid : IsUtf8 (drop count t.bytes)
  left_valid =
      let within : count ≤ length t.bytes = omega (arith, short) in
      IsUtf8-drop t.bytes count q.valid (IsCharBoundary-from_take t.bytes count q.valid within
      (subst IsUtf8 (take-append-le count t.bytes (bytes_of_all xs) within) valid))

  pub left_queue : (left : Text) → left.bytes ≡ drop count t.bytes → IsQueue left xs
  left_queue left e =
      let size : length left.bytes ≡ length t.bytes - count = ap length e ∙ length-drop count t.bytes in
      first_some left xs (subst IsUtf8 (sym e) left_valid) (omega (arith, size, short)) q.each

  pub left_loses : (left : Text) → left.bytes ≡ drop count t.bytes → PopCost t left
      → DropsFront (all_texts t xs) (all_texts left xs)
  left_loses left e keeps = loses (all_texts t xs) (all_texts left xs) t left
      (leaves_first t left xs (all_texts left xs) (omega (arith, short)) refl) (take count t.bytes)
      (sym (take-append-drop count t.bytes) ∙ ap (λ l. take count t.bytes ++ l) (sym e)) keeps

-- all bytes of the first text were dropped, and some of the rest
module _ (t : Text) (xs : List Text) (count : ℕ) (q : IsQueue t xs) (long : length t.bytes ≤ count) where
  sum : length t.bytes + (count - length t.bytes) ≡ count
  sum = omega (arith, long)

  pub rest_valid : IsUtf8 (take count (t.bytes ++ bytes_of_all xs))
      → IsUtf8 (take (count - length t.bytes) (bytes_of_all xs))
  rest_valid valid =
      valid_after t.bytes (take (count - length t.bytes) (bytes_of_all xs)) (subst IsUtf8
      (ap (λ m. take m (t.bytes ++ bytes_of_all xs)) (sym sum)
      ∙ take-append-add t.bytes (bytes_of_all xs) (count - length t.bytes)) valid) q.valid

  -- the rest, and then the queue whose first text is filled again
  pub rest_of_all : (ys : List Text) (left f : Text) (zs : List Text)
      → bytes_of_all ys ≡ drop (count - length t.bytes) (bytes_of_all xs) → left.bytes ≡ []
      → all_texts f zs ≡ all_texts left ys
      → f.bytes ++ bytes_of_all zs ≡ drop count (t.bytes ++ bytes_of_all xs)
  rest_of_all ys left f zs e none filled =
      sym (all_bytes f zs) ∙ ap bytes_of_all (filled ∙ all_none left ys none) ∙ e
      ∙ sym (drop-append-add t.bytes (bytes_of_all xs) (count - length t.bytes))
      ∙ ap (λ m. drop m (t.bytes ++ bytes_of_all xs)) sum

  pub rest_loses : (ys : List Text) (left f : Text) (zs : List Text) → left.bytes ≡ []
      → all_texts f zs ≡ all_texts left ys → DropsFront xs ys
      → DropsFront (all_texts t xs) (all_texts f zs)
  rest_loses ys left f zs none filled d =
      subst (DropsFront (all_texts t xs)) (sym (filled ∙ all_none left ys none)) (record {
        gone = unless_empty t ++ d.gone;
        others = d.others;
        had = ap (λ l. unless_empty t ++ l) d.had ∙ sym (append_assoc (unless_empty t) d.gone d.others);
        has = d.has;
      })
