-- A pattern, and the texts that were compared with it.
use Rattle.std.proofs.Common.{
  ◌≡◌,
  ℕ,
  ◌+◌,
  ◌-◌,
  ◌<◌,
  ◌≤◌,
  min,
  List,
  ◌∷◌,
  ◌++◌,
  length,
  get_or,
  take,
  drop,
  sym,
  ap,
  ap₂,
  ◌∙◌,
  subst,
  arith,
}
use Rattle.std.proofs.Math.Seq.{take-append-add}
use Rattle.std.proofs.lemmas.List.{
  length-append,
  length-take-le,
  length-drop,
  take-append-drop,
  take-append-le,
  take_more,
  take_all,
  take_rest,
  drop_more,
}
use Rattle.tendril_queue.proofs.Sameness.{same_after, same_join}
use Rattle.tendril_queue.specs.declared.eat.Case.{Case}
use Rattle.tendril_queue.specs.Eating.{AreSame, BeginsWith, Differs}
use Rattle.tendril_text.proofs.TextLists.{joined-append, joined_push}
use Rattle.tendril_text.specs.TextLists.{bytes_of_all}
use Rattle.tendril_text.specs.Texts.{Text}

-- the first `index` texts are the same as the first `at` bytes of the pattern, which is longer
pub record IsPassed (case : Case) (pattern : List ℕ) (xs : List Text) (index at : ℕ) : Type 0 where
  pub len : at ≡ length (bytes_of_all (take index xs))
  pub within : at ≤ length pattern
  pub more : 0 < index → at < length pattern
  pub same : AreSame case (bytes_of_all (take index xs)) (take at pattern)

-- the bytes of the texts, split at one of them
joined_at : (xs : List Text) (t : Text) (index : ℕ) → index < length xs → t ≡ get_or xs index t
    → bytes_of_all xs ≡ bytes_of_all (take index xs) ++ (t.bytes ++ bytes_of_all (drop (index + 1) xs))
joined_at xs t index h is =
    ap bytes_of_all (sym (take-append-drop index xs) ∙ ap (λ l. take index xs ++ l) (drop_more xs index t h))
    ∙ joined-append (take index xs) (get_or xs index t ∷ drop (index + 1) xs)
    ∙ ap (λ (x : Text). bytes_of_all (take index xs) ++ (x.bytes ++ bytes_of_all (drop (index + 1) xs))) (sym is)

-- the next `count` bytes are compared, in one of the texts
pub record IsNext (case : Case) (pattern : List ℕ) (xs : List Text) (t : Text) (index at count : ℕ) : Type 0 where
  pub there : index < length xs
  pub is : t ≡ get_or xs index t
  pub in_text : count ≤ length t.bytes
  pub in_pattern : at + count ≤ length pattern

module _ (case : Case) (pattern : List ℕ) (xs : List Text) (t : Text) (index at count : ℕ) where
  -- the bytes of the texts that are compared then
  front : IsPassed case pattern xs index at → IsNext case pattern xs t index at count
      → take (at + count) (bytes_of_all xs) ≡ bytes_of_all (take index xs) ++ take count t.bytes
  front p n =
      ap₂ take (ap (λ m. m + count) p.len) (joined_at xs t index n.there n.is)
      ∙ take-append-add (bytes_of_all (take index xs)) (t.bytes ++ bytes_of_all (drop (index + 1) xs)) count
      ∙ ap (λ l. bytes_of_all (take index xs) ++ l)
      (take-append-le count t.bytes (bytes_of_all (drop (index + 1) xs)) n.in_text)

  front_len : IsPassed case pattern xs index at → length (take at pattern) ≡ at
  front_len p = length-take-le at pattern p.within

  pattern_front : IsPassed case pattern xs index at → take (at + count) pattern
      ≡ take at pattern ++ take count (drop at pattern)
  pattern_front p =
      ap₂ take (ap (λ m. m + count) (sym (front_len p))) (sym (take-append-drop at pattern))
      ∙ take-append-add (take at pattern) (drop at pattern) count

  total : IsPassed case pattern xs index at → IsNext case pattern xs t index at count
      → at + count ≤ length (bytes_of_all xs)
  total p n =
      let rest = bytes_of_all (drop (index + 1) xs) in
      let size : length (bytes_of_all xs) ≡ length (bytes_of_all (take index xs)) + (length t.bytes + length rest) =
      ap length (joined_at xs t index n.there n.is) ∙ length-append (bytes_of_all (take index xs)) (t.bytes ++ rest)
      ∙ ap (λ m. length (bytes_of_all (take index xs)) + m) (length-append t.bytes rest) in
      let len = p.len in
      let in_text = n.in_text in
      omega (arith, size, len, in_text)

  pub differs : IsPassed case pattern xs index at → IsNext case pattern xs t index at count
      → (AreSame case (take count t.bytes) (take count (drop at pattern)) → ⊥)
      → Differs (AreSame case) pattern (bytes_of_all xs)
  differs p n other = record {
    count = at + count;
    within = total p n;
    in_pattern = n.in_pattern;
    other = λ same. other (same_after case (bytes_of_all (take index xs)) (take at pattern) (take count t.bytes)
        (take count (drop at pattern))
        (sym p.len ∙ sym (front_len p))
        (subst (λ l. AreSame case (bytes_of_all (take index xs) ++ take count t.bytes) l) (pattern_front p) (subst
        (λ l. AreSame case l (take (at + count) pattern)) (front p n) same)));
  }

  -- if the next bytes are the same, all bytes so far are
  together : IsPassed case pattern xs index at → IsNext case pattern xs t index at count
      → AreSame case (take count t.bytes) (take count (drop at pattern))
      → AreSame case (bytes_of_all (take index xs) ++ take count t.bytes) (take (at + count) pattern)
  together p n same =
      subst (λ l. AreSame case (bytes_of_all (take index xs) ++ take count t.bytes) l) (sym (pattern_front p))
      (same_join case (bytes_of_all (take index xs)) (take at pattern) (take count t.bytes) (take count
      (drop at pattern)) p.same same)

  pub begins : IsPassed case pattern xs index at → IsNext case pattern xs t index at count
      → AreSame case (take count t.bytes) (take count (drop at pattern)) → at + count ≡ length pattern
      → BeginsWith (AreSame case) pattern (bytes_of_all xs)
  begins p n same all = record {
    within = subst (λ m. m ≤ length (bytes_of_all xs)) all (total p n);
    is = let whole : take (at + count) pattern ≡ pattern = take_all (at + count) pattern (omega (arith, all)) in
        subst (λ m. AreSame case (take m (bytes_of_all xs)) pattern) all
        (subst (λ l. AreSame case l pattern) (sym (front p n)) (subst (λ l. AreSame case (bytes_of_all
        (take index xs) ++ take count t.bytes) l) whole (together p n same)));
  }

  -- the whole text was compared
  pub passed_more : IsPassed case pattern xs index at → IsNext case pattern xs t index at count
      → AreSame case (take count t.bytes) (take count (drop at pattern)) → at + count < length pattern
      → count ≡ length t.bytes → IsPassed case pattern xs (index + 1) (at + count)
  passed_more p n same goes_on whole =
      let next : bytes_of_all (take (index + 1) xs) ≡ bytes_of_all (take index xs) ++ t.bytes =
      ap bytes_of_all (take_more xs index t n.there) ∙ joined_push (take index xs) (get_or xs index t)
      ∙ ap (λ (x : Text). bytes_of_all (take index xs) ++ x.bytes) (sym n.is) in
      let len = p.len in
      let all : take count t.bytes ≡ t.bytes = take_all count t.bytes (omega (arith, whole)) in
      record {
        len = ap₂ (λ x y. x + y) len whole ∙ sym (length-append (bytes_of_all (take index xs)) t.bytes)
            ∙ ap length (sym next);
        within = omega (arith, goes_on);
        more = λ _. goes_on;
        same = subst (λ l. AreSame case l (take (at + count) pattern)) (ap (λ l. bytes_of_all
            (take index xs) ++ l) all ∙ sym next) (together p n same);
      }

-- what the code compares: `count` bytes of a text and of the remainder of the pattern

module _ (pattern bytes text : List ℕ) (at count : ℕ) (read : bytes ≡ text) where
  -- the remainder of the pattern, as a slice of it
  abbrev rest : List ℕ
  rest = take (length pattern - at) (drop at pattern)

  pub bounds : at ≤ length pattern → count ≡ min (length bytes) (length rest)
      → (count ≤ length text) × (at + count ≤ length pattern) × (at + count < length pattern → count ≡ length text)
  bounds within is =
      let left : length rest ≡ length pattern - at = ap length (take_rest pattern at) ∙ length-drop at pattern in
      let size : length bytes ≡ length text = ap length read in (
        omega (arith, is, left, size),
        omega (arith, is, left, size, within),
        λ h. omega
            (arith, is, left, size, within, h),
      )

  pub same_parts : (case : Case) → AreSame case (take count bytes) (take count rest)
      → AreSame case (take count text) (take count (drop at pattern))
  same_parts case h =
      subst (λ l. AreSame case (take count text) (take count l)) (take_rest pattern at)
      (subst (λ b. AreSame case (take count b) (take count rest)) read h)

  pub parts_same : (case : Case) → AreSame case (take count text) (take count (drop at pattern))
      → AreSame case (take count bytes) (take count rest)
  parts_same case h =
      subst (λ b. AreSame case (take count b) (take count rest)) (sym read)
      (subst (λ l. AreSame case (take count text) (take count l)) (sym (take_rest pattern at)) h)
