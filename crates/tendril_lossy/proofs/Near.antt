-- What four bytes or more begin with: a character, or a broken sequence.
use Rattle.std.proofs.Common.{◌≡◌, ℕ, ◌+◌, ◌<◌, ◌≤◌, Bool, true, false, List, [], ◌∷◌, ◌++◌, length, take, drop, map}
use Rattle.std.proofs.Common.{slice_index, Some, IsUtf8, refl, sym, ap, subst, ◌∙◌, arith, inl, ⊎_elim, true≢false}
use Rattle.std.proofs.Common.{length-take-le, length-drop, get_or-take}
use Rattle.std.specs.Prelude.{◌&&◌}
use Rattle.std.specs.Char.{encode_utf8, IsScalar}
use Rattle.std.specs.Str.{StartsWithNoChar, chars}
use Rattle.std.specs.Str.Lossy.{utf8_error_len}
use Rattle.std.proofs.lemmas.Bool.{cases_Bool, cases_lt, cond-true, cond-false, and_parts, and_from}
use Rattle.std.proofs.lemmas.Bool.Decides.{nat_tests}
use Rattle.std.proofs.lemmas.List.{take-take, length-take, get_or_past}
use Rattle.std.proofs.lemmas.Str.{IsUtf8-encode, IsUtf8-from_ascii}
use Rattle.tendril_fmt.specs.CodePoints.{IsContinuation}
use Rattle.tendril_fmt.specs.Proved.Encodings.{Shape, of1, of2, of3, of4, encode_utf8_1, point_shape}
use Rattle.tendril_fmt.specs.Proved.Encodings.{IsCodePoint-scalar}
use Rattle.tendril_lossy.specs.AfterText.{items_after}
use Rattle.tendril_lossy.specs.declared.search.Ending.{Ending}
use Rattle.tendril_lossy.specs.declared.search.Ending.TheVariants.{Broken}
use Rattle.tendril_lossy.specs.Lossy.{Keep, lossy}
use Rattle.tendril_lossy.proofs.Faults.{lead, second, later, err_is, at_start, past_start, past_second, not_less}
use Rattle.tendril_lossy.proofs.Subparts.{Completes, second_3, second_4, second_bounds, is_scalar, spells_2, spells_3}
use Rattle.tendril_lossy.proofs.Subparts.{spells_4, later_bounds}
use Rattle.tendril_lossy.proofs.Fronts.{bad_front}
use Rattle.tendril_lossy.proofs.Windows.{grow, bad_at}

-- the first two bytes may begin a character that isn't ASCII
abbrev begin : List ℕ → Bool
begin bs = lead (slice_index bs 0) && second (slice_index bs 0) (slice_index bs 1)

-- Bytes that begin with a character.

front_1 : (bs : List ℕ) → 1 ≤ length bs → take 1 bs ≡ slice_index bs 0 ∷ []
front_1 [] h = absurd (omega arith)
front_1 (x ∷ bs) h = refl

front_2 : (bs : List ℕ) → 2 ≤ length bs → take 2 bs ≡ slice_index bs 0 ∷ slice_index bs 1 ∷ []
front_2 [] h = absurd (omega arith)
front_2 (x ∷ bs) h = ap (λ l. x ∷ l) (front_1 bs (omega arith))

front_3 : (bs : List ℕ) → 3 ≤ length bs → take 3 bs ≡ slice_index bs 0 ∷ slice_index bs 1 ∷ slice_index bs 2 ∷ []
front_3 [] h = absurd (omega arith)
front_3 (x ∷ bs) h = ap (λ l. x ∷ l) (front_2 bs (omega arith))

front_4 : (bs : List ℕ) → 4 ≤ length bs → take 4 bs
    ≡ slice_index bs 0 ∷ slice_index bs 1 ∷ slice_index bs 2 ∷ slice_index bs 3 ∷ []
front_4 [] h = absurd (omega arith)
front_4 (x ∷ bs) h = ap (λ l. x ∷ l) (front_3 bs (omega arith))

spelt : (t ds : List ℕ) → t ≡ ds → Completes ds → IsUtf8 t
spelt t ds e k = subst IsUtf8 (sym (e ∙ k.2)) (IsUtf8-encode k.0 k.1)

pub whole_1 : (bs : List ℕ) → 1 ≤ length bs → slice_index bs 0 < 128 → IsUtf8 (take 1 bs)
whole_1 bs le low =
    let x = slice_index bs 0 in
    let narrow : x < 0xD800 = omega arith in
    spelt (take 1 bs) (x ∷ []) (front_1 bs le) (x, is_scalar x (inl narrow), sym (encode_utf8_1 x low))

pub whole_2 : (bs : List ℕ) → 2 ≤ length bs → begin bs ≡ true → slice_index bs 0 < 224 → IsUtf8 (take 2 bs)
whole_2 bs le b lt =
    let x = slice_index bs 0 in let y = slice_index bs 1 in
    let p = and_parts (lead x) (second x y) b in
    spelt (take 2 bs) (x ∷ y ∷ []) (front_2 bs le) (spells_2 x y p.0 lt (second_bounds x y p.1).0)

pub whole_3 : (bs : List ℕ) → 3 ≤ length bs → begin bs ≡ true → 224 ≤ slice_index bs 0 → later (slice_index bs 2)
    ≡ true → slice_index bs 0 < 240 → IsUtf8 (take 3 bs)
whole_3 bs le b l t lt =
    let x = slice_index bs 0 in let y = slice_index bs 1 in let z = slice_index bs 2 in
    let p = and_parts (lead x) (second x y) b in
    spelt (take 3 bs) (x ∷ y ∷ z ∷ []) (front_3 bs le) (spells_3 x y z p.0 l lt p.1 t)

pub whole_4 : (bs : List ℕ) → 4 ≤ length bs → begin bs ≡ true → later (slice_index bs 2) ≡ true
    → 240 ≤ slice_index bs 0 → later (slice_index bs 3) ≡ true → IsUtf8 (take 4 bs)
whole_4 bs le b t l u =
    let x = slice_index bs 0 in let y = slice_index bs 1 in let z = slice_index bs 2 in let w = slice_index bs 3 in
    let p = and_parts (lead x) (second x y) b in
    spelt (take 4 bs) (x ∷ y ∷ z ∷ w ∷ []) (front_4 bs le) (spells_4 x y z w p.0 l p.1 t (later_bounds w u))

-- Bytes that begin with no character.

-- four bytes that begin with a character, by its length
data Begins (x y z w : ℕ) : Type 0 where
  one : x < 128 → Begins x y z w
  two : x < 224 → lead x ≡ true → second x y ≡ true → Begins x y z w
  three : x < 240 → lead x ≡ true → second x y ≡ true → later z ≡ true → Begins x y z w
  four : lead x ≡ true → second x y ≡ true → later z ≡ true → later w ≡ true → Begins x y z w

later_is : (z : ℕ) → IsContinuation z → later z ≡ true
later_is z f = let fl = f.0 in let fh = f.1 in grind (arith, nat_tests)

second_2 : (a b : ℕ) → 194 ≤ a → a < 224 → IsContinuation b → second a b ≡ true
second_2 a b l h f = let fl = f.0 in let fh = f.1 in grind (arith, nat_tests)

lead_is : (a : ℕ) → 194 ≤ a → a < 245 → lead a ≡ true
lead_is a l h = grind (arith, nat_tests)

abbrev BeginsLike : List ℕ → Type 0
BeginsLike bs = Begins (slice_index bs 0) (slice_index bs 1) (slice_index bs 2) (slice_index bs 3)

begins : (bs : List ℕ) (c : ℕ) (rest : List ℕ) → IsScalar c → bs ≡ encode_utf8 c ++ rest → BeginsLike bs
begins bs c rest s e = by (point_shape c (IsCodePoint-scalar c s))
  where
    put : (ds : List ℕ) → encode_utf8 c ≡ ds → BeginsLike (ds ++ rest) → BeginsLike bs
    put ds i b = subst BeginsLike (sym (e ∙ ap (λ l. l ++ rest) i)) b

    by : Shape c → BeginsLike bs
    by (of1 h i) = put _ i (one h)
    by (of2 a b l h f t i) = put _ i (two h (lead_is a l (omega arith)) (second_2 a b l h f))
    by (of3 a b d l h f g t m i) =
        put _ i (three h (lead_is a (omega arith) (omega arith)) (second_3 c a b d s l h f g t m) (later_is d g))
    by (of4 a b d w l h f g j t m i) =
        put _ i (four (lead_is a (omega arith) h) (second_4 c a b d w s l h f g j t m) (later_is d g) (later_is w j))

refuted : (bs : List ℕ) → begin bs ≡ false → lead (slice_index bs 0) ≡ true
    → second (slice_index bs 0) (slice_index bs 1) ≡ true → ⊥
refuted bs broken l t = true≢false
    (sym (and_from (lead (slice_index bs 0)) (second (slice_index bs 0) (slice_index bs 1)) l t) ∙ broken)

pub none_1 : (bs : List ℕ) → 128 ≤ slice_index bs 0 → begin bs ≡ false → StartsWithNoChar bs
none_1 bs high broken c rest s e = by (begins bs c rest s e)
  where
    by : BeginsLike bs → ⊥
    by (one h) = omega arith
    by (two _ l t) = refuted bs broken l t
    by (three _ l t _) = refuted bs broken l t
    by (four l t _ _) = refuted bs broken l t

pub none_2 : (bs : List ℕ) → 224 ≤ slice_index bs 0 → later (slice_index bs 2) ≡ false → StartsWithNoChar bs
none_2 bs high broken c rest s e = by (begins bs c rest s e)
  where
    by : BeginsLike bs → ⊥
    by (one h) = omega arith
    by (two h _ _) = omega arith
    by (three _ _ _ t) = true≢false (sym t ∙ broken)
    by (four _ _ t _) = true≢false (sym t ∙ broken)

pub none_3 : (bs : List ℕ) → 240 ≤ slice_index bs 0 → later (slice_index bs 3) ≡ false → StartsWithNoChar bs
none_3 bs high broken c rest s e = by (begins bs c rest s e)
  where
    by : BeginsLike bs → ⊥
    by (one h) = omega arith
    by (two h _ _) = omega arith
    by (three h _ _ _) = omega arith
    by (four _ _ _ t) = true≢false (sym t ∙ broken)

-- The length of the broken sequence.

pub error_1 : (bs : List ℕ) → 4 ≤ length bs → begin bs ≡ false → utf8_error_len bs ≡ Some 1
error_1 bs le broken =
    let n = length bs in let x = slice_index bs 0 in let y = slice_index bs 1 in let z = slice_index bs 2 in
    err_is bs ∙ ⊎_elim
    (λ (l : lead x ≡ true). past_start n x y z (omega arith) l
    ∙ cond-false _ _ _ (⊎_elim (λ (t : second x y ≡ true). absurd (refuted bs broken l t))
    (λ (t : second x y ≡ false). t) (cases_Bool (second x y))))
    (λ (l : lead x ≡ false). at_start n x y z (omega arith) l)
    (cases_Bool (lead x))

pub error_2 : (bs : List ℕ) → 4 ≤ length bs → begin bs ≡ true → later (slice_index bs 2) ≡ false → utf8_error_len bs
    ≡ Some 2
error_2 bs le b broken =
    let n = length bs in let x = slice_index bs 0 in let y = slice_index bs 1 in let z = slice_index bs 2 in
    let p = and_parts (lead x) (second x y) b in
    err_is bs ∙ past_second n x y z (omega arith) p.0 p.1 ∙ cond-false _ _ _ broken

pub error_3 : (bs : List ℕ) → 4 ≤ length bs → begin bs ≡ true → later (slice_index bs 2) ≡ true → utf8_error_len bs
    ≡ Some 3
error_3 bs le b t =
    let n = length bs in let x = slice_index bs 0 in let y = slice_index bs 1 in let z = slice_index bs 2 in
    let p = and_parts (lead x) (second x y) b in
    err_is bs ∙ past_second n x y z (omega arith) p.0 p.1 ∙ cond-true _ _ _ t ∙ cond-false _ _ _ (not_less n 4 le)

-- The offset at which a text ends is the text's length.

pub at_length : (bs : List ℕ) (m : ℕ) (ending : Ending) → m ≤ length bs
    → lossy bs ≡ map Keep (chars (take m bs)) ++ items_after bs (length (take m bs)) ending
    → lossy bs ≡ map Keep (chars (take m bs)) ++ items_after bs m ending
at_length bs m ending le e = subst (λ n. lossy bs ≡ map Keep (chars (take m bs)) ++ items_after bs n ending)
    (length-take-le m bs le) e

-- A slice of the bytes after text.

-- if it begins with text, the text gets longer
pub grow_part : (bs : List ℕ) (at w n : ℕ) → IsUtf8 (take at bs) → n ≤ w → IsUtf8 (take n (take w (drop at bs)))
    → IsUtf8 (take (at + n) bs)
grow_part bs at w n u le v = grow bs at n u (subst IsUtf8 (take-take n w (drop at bs) le) v)

-- if it begins with ASCII, the text gets longer
pub grow_ascii : (bs : List ℕ) (at w n : ℕ) → IsUtf8 (take at bs) → n ≤ w
    → ((k : ℕ) → k < n → slice_index (take w (drop at bs)) k < 128) → IsUtf8 (take (at + n) bs)
grow_ascii bs at w n u le low = grow_part bs at w n u le (IsUtf8-from_ascii (take n part) (λ i. ⊎_elim
    (λ (h : i < n). subst (λ x. x < 128) (sym (get_or-take n part i 0 h)) (low i h))
    (λ (h : n ≤ i). let none : slice_index (take n part) i ≡ 0 =
    get_or_past (take n part) i 0 (omega (arith, length-take n part)) in omega arith)
    (cases_lt i n)))
  where
    part : List ℕ
    part = take w (drop at bs)

-- if it begins with a broken sequence, that is what ends the text
pub broken_part : (bs : List ℕ) (at w k : ℕ) → IsUtf8 (take at bs) → at < length bs
    → StartsWithNoChar (take w (drop at bs)) → utf8_error_len (take w (drop at bs)) ≡ Some k
    → lossy bs ≡ map Keep (chars (take at bs)) ++ items_after bs at (Broken k)
broken_part bs at w k u some none e =
    at_length bs at (Broken k) (omega arith)
    (bad_at bs (take at bs) at k u (omega arith) refl
    (bad_front (drop at bs) w k (omega (arith, length-drop at bs)) none e))
