-- Steps of the decoder of UTF-16.
use Rattle.std.proofs.Common.{◌≡◌, ℕ, zero, suc, ◌+◌, ◌*◌, ◌-◌, ◌≤◌, Bool, true, false, List, [], ◌∷◌, ◌++◌}
use Rattle.std.proofs.Common.{length, take, drop, slice_index, sym, ap, ap₂, subst, ◌∙◌, arith, append-nil}
use Rattle.std.proofs.Common.{append_assoc, map}
use Rattle.std.specs.Prelude.{Option, Some, None}
use Rattle.std.specs.Char.{IsScalar, encode_utf8}
use Rattle.std.specs.List.{range_with_len}
use Rattle.std.specs.Str.{all_scalars, encode_utf8_all}
use lib.Utf8.{scalar}
use Rattle.std.specs.Char.Utf16.{is_high_surrogate, is_low_surrogate, surrogate_pair_char}
use Rattle.std.proofs.lemmas.Bool.{and_parts, cond-true, cond-false}
use Rattle.std.proofs.lemmas.Bool.Decides.{nat_tests}
use Rattle.std.proofs.lemmas.List.{drop_more, get_or-drop, take_rest, length-drop}
use Rattle.tendril_lossy.specs.Lossy.{Char}
use Rattle.tendril_decode.specs.Machines.{Machine, told_from, state_after, DecodesTo}
use Rattle.tendril_decode.specs.Utf16.{utf16, unit_of, tells_unit, tells_alone, lead_after}
use Rattle.tendril_decode.specs.Utf16Blocks.{unit_at, first_units}
use Rattle.tendril_decode.specs.declared.utf16.Utf16.{Utf16}
use Rattle.tendril_decode.proofs.Machines.{DecodesTo-more, DecodesTo-char, DecodesTo-marks}

low_not_high : (u : ℕ) → is_low_surrogate u ≡ true → is_high_surrogate u ≡ false
low_not_high u e = grind (arith, nat_tests)

not_high : (u : ℕ) → IsScalar u → is_high_surrogate u ≡ false
not_high u e = grind (arith, nat_tests)

not_low : (u : ℕ) → IsScalar u → is_low_surrogate u ≡ false
not_low u e = grind (arith, nat_tests)

after_other : (u : ℕ) → is_high_surrogate u ≡ false → lead_after u ≡ None
after_other u e = cond-false _ _ _ e

pub two_more : (input : List ℕ) (read : ℕ) → read + 2 ≤ length input → drop read input
    ≡ slice_index input read ∷ slice_index input (read + 1) ∷ drop (read + 2) input
two_more input read le =
    let same : read + 1 + 1 ≡ read + 2 = omega arith in
    drop_more input read 0 (omega arith)
    ∙ ap (λ l. slice_index input read ∷ l) (drop_more input (read + 1) 0 (omega arith)
    ∙ ap (λ n. slice_index input (read + 1) ∷ drop n input) same)

pub length-rest : (input : List ℕ) (read : ℕ)
    → length (take (length input - read) (drop read input)) ≡ length input - read
length-rest input read = ap length (take_rest input read) ∙ length-drop read input

module _ (n : ℕ) (big : Bool) where
  abbrev machine : Machine (Utf16 n)
  machine = utf16 big

  abbrev kept : Option ℕ → Utf16 n
  kept lead = record { lead = lead; odd = None }

  abbrev nothing : Utf16 n
  nothing = kept None

  told_two : (a b u : ℕ) → u ≡ unit_of big a b → told_from machine nothing (a ∷ b ∷ []) ≡ tells_alone u
  told_two a b u e = append-nil (tells_alone (unit_of big a b)) ∙ ap tells_alone (sym e)

  state_two : (a b u : ℕ) → u ≡ unit_of big a b → state_after machine nothing (a ∷ b ∷ []) ≡ kept (lead_after u)
  state_two a b u e = ap (λ x. kept (lead_after x)) (sym e)

  module _ (s : Utf16 n) (input text : List ℕ) (read u : ℕ) (room : read + 2 ≤ length input)
      (is : u ≡ unit_of big (slice_index input read) (slice_index input (read + 1)))
      (d : DecodesTo machine s input text [] nothing (drop read input)) where
    abbrev a : ℕ
    a = slice_index input read

    abbrev b : ℕ
    b = slice_index input (read + 1)

    -- a unit by itself
    pub unit_done : is_high_surrogate u ≡ false → is_low_surrogate u ≡ false → IsScalar u
        → DecodesTo machine s input (text ++ encode_utf8 u) [] nothing (drop (read + 2) input)
    unit_done other alone scalar =
        let last = drop (read + 2) input in
        DecodesTo-more machine s nothing nothing input text (drop read input) (encode_utf8 u) last [] d
        (subst (λ l. DecodesTo machine nothing l (encode_utf8 u) [] nothing last) (sym (two_more input read room))
        (DecodesTo-char machine nothing nothing (a ∷ b ∷ []) last u scalar
        (told_two a b u is ∙ cond-false _ _ _ other ∙ cond-false _ _ _ alone)
        (state_two a b u is ∙ ap kept (after_other u other))))

    -- after a lead
    lead_done : is_high_surrogate u ≡ true → DecodesTo machine s input text [] (kept (Some u)) (drop (read + 2) input)
    lead_done high =
        let last = drop (read + 2) input in
        subst (λ l. DecodesTo machine s input l [] (kept (Some u)) last) (append-nil text)
        (DecodesTo-more machine s nothing (kept (Some u)) input text (drop read input) [] last [] d
        (subst (λ l. DecodesTo machine nothing l [] [] (kept (Some u)) last) (sym (two_more input read room))
        (DecodesTo-marks machine nothing (kept (Some u)) (a ∷ b ∷ []) last []
        (told_two a b u is ∙ cond-true _ _ _ high) (state_two a b u is ∙ ap kept (cond-true _ _ _ high)))))

    module _ (high : is_high_surrogate u ≡ true) (v : ℕ) (long : read + 4 ≤ length input)
        (next : v ≡ unit_of big (slice_index input (read + 2)) (slice_index input (read + 3))) where
      abbrev e : ℕ
      e = slice_index input (read + 2)

      abbrev f : ℕ
      f = slice_index input (read + 3)

      rest_is : drop (read + 2) input ≡ e ∷ f ∷ drop (read + 4) input
      rest_is =
          let three : read + 2 + 1 ≡ read + 3 = omega arith in
          let four : read + 2 + 2 ≡ read + 4 = omega arith in
          two_more input (read + 2) (omega arith)
          ∙ ap₂ (λ i j. e ∷ slice_index input i ∷ drop j input) three four

      told_trail : (lead : Option ℕ) → told_from machine (kept lead) (e ∷ f ∷ []) ≡ tells_unit lead v
      told_trail lead = append-nil (tells_unit lead (unit_of big e f)) ∙ ap (tells_unit lead) (sym next)

      pub pair_done : is_low_surrogate v ≡ true → (c : ℕ) → c ≡ surrogate_pair_char u v → IsScalar c
          → DecodesTo machine s input (text ++ encode_utf8 c) [] nothing (drop (read + 4) input)
      pair_done low c pair scalar =
          let last = drop (read + 4) input in
          DecodesTo-more machine s (kept (Some u)) nothing input text (drop (read + 2) input) (encode_utf8 c) last []
          (lead_done high)
          (subst (λ l. DecodesTo machine (kept (Some u)) l (encode_utf8 c) [] nothing last) (sym rest_is)
          (DecodesTo-char machine (kept (Some u)) nothing (e ∷ f ∷ []) last c scalar
          (told_trail (Some u) ∙ cond-true _ _ _ low ∙ ap (λ x. Char x ∷ []) (sym pair))
          (state_two e f v next ∙ ap kept (after_other v (low_not_high v low)))))

  -- Units that are no surrogates, from the k-th one after an offset.
  run_from : (s : Utf16 n) (input text : List ℕ) (read k count : ℕ) → read + 2 * (k + count) ≤ length input
      → all_scalars (map (unit_at big (drop read input)) (range_with_len k count)) ≡ true
      → DecodesTo machine s input text [] nothing (drop (read + 2 * k) input)
      → DecodesTo machine s input
      (text ++ encode_utf8_all (map (unit_at big (drop read input)) (range_with_len k count))) []
      nothing (drop (read + 2 * (k + count)) input)
  run_from s input text read k zero room scalars d =
      let same : read + 2 * k ≡ read + 2 * (k + zero) = omega arith in
      subst (λ j. DecodesTo machine s input (text ++ []) [] nothing (drop j input)) same
      (subst (λ l. DecodesTo machine s input l [] nothing (drop (read + 2 * k) input)) (sym (append-nil text)) d)
  run_from s input text read k (suc count) room scalars d =
      let bytes = drop read input in
      let at = read + 2 * k in
      let u = unit_at big bytes k in
      let more = map (unit_at big bytes) (range_with_len (k + 1) count) in
      let both = and_parts (scalar u) (all_scalars more) scalars in
      let second : read + (2 * k + 1) ≡ at + 1 = omega arith in
      let is : u ≡ unit_of big (slice_index input at) (slice_index input (at + 1)) =
      ap₂ (unit_of big) (get_or-drop read input (2 * k) 0)
      (get_or-drop read input (2 * k + 1) 0 ∙ ap (slice_index input) second) in
      let next : at + 2 ≡ read + 2 * (k + 1) = omega arith in
      let end : read + 2 * (k + 1 + count) ≡ read + 2 * (k + suc count) = omega arith in
      let one : DecodesTo machine s input (text ++ encode_utf8 u) [] nothing (drop (at + 2) input) =
      unit_done s input text at u (omega arith) is d (not_high u both.0) (not_low u both.0) both.0 in
      subst (λ l. DecodesTo machine s input l [] nothing (drop (read + 2 * (k + suc count)) input))
      (append_assoc text (encode_utf8 u) (encode_utf8_all more))
      (subst
      (λ j. DecodesTo machine s input ((text ++ encode_utf8 u) ++ encode_utf8_all more) [] nothing (drop j input)) end
      (run_from s input (text ++ encode_utf8 u) read (k + 1) count (omega arith) both.1
      (subst (λ j. DecodesTo machine s input (text ++ encode_utf8 u) [] nothing (drop j input)) next one)))

  pub block_done : (s : Utf16 n) (input text : List ℕ) (read count : ℕ) → read ≤ length input
      → 2 * count ≤ length (take (length input - read) (drop read input))
      → all_scalars (first_units big (take (length input - read) (drop read input)) count) ≡ true
      → DecodesTo machine s input text [] nothing (drop read input)
      → DecodesTo machine s input
      (text ++ encode_utf8_all (first_units big (take (length input - read) (drop read input)) count)) [] nothing
      (drop (read + 2 * count) input)
  block_done s input text read count within room scalars d =
      let rest = take_rest input read in
      let start : read ≡ read + 2 * 0 = omega arith in
      let end : read + 2 * (0 + count) ≡ read + 2 * count = omega arith in
      let long : read + 2 * (0 + count) ≤ length input = omega (arith, room, ap length rest, length-drop read input) in
      subst (λ l. DecodesTo machine s input (text ++ encode_utf8_all (first_units big l count)) [] nothing
      (drop (read + 2 * count) input)) (sym rest)
      (subst (λ j. DecodesTo machine s input (text ++ encode_utf8_all (first_units big (drop read input) count)) []
      nothing (drop j input)) end
      (run_from s input text read 0 count long (sym (ap (λ l. all_scalars (first_units big l count)) rest) ∙ scalars)
      (subst (λ j. DecodesTo machine s input text [] nothing (drop j input)) start d)))
