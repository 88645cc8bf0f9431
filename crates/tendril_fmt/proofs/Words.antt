-- The UTF-8 of a block of units, in words of four bytes.
use Rattle.std.proofs.Common.{◌≡◌, ℕ, zero, suc, ◌+◌, ◌*◌, ◌/◌, ◌%◌, ◌<◌, ◌≤◌, Bool, true, false, ◌&&◌, leb, ltb}
use Rattle.std.proofs.Common.{eqb, cond, List, [], ◌∷◌, ◌++◌, length, take, map, get_or, slice_index, replicate, refl}
use Rattle.std.proofs.Common.{sym, ap, ap₂, ◌∙◌, arith, inl, inr, bit_and, encode_utf8}
use Rattle.std.specs.Prelude.{◌⊎◌}
use Rattle.std.specs.List.{range_with_len, flat_map}
use Rattle.std.specs.Str.{all_scalars, encode_utf8_all}
use Rattle.std.specs.Simd.Lanes.{top, pick_l}
use Rattle.std.proofs.lemmas.Bool.{and_from, cond-true, cond-false}
use Rattle.std.proofs.lemmas.Bool.Decides.{nat_tests}
use Rattle.tendril_fmt.specs.Blocks.{units_of, fronts}
use Rattle.tendril_fmt.specs.Proved.Encodings.{encode_utf8_1, encode_utf8_2, encode_utf8_3, IsScalar-from_bounds}
use Rattle.tendril_fmt.proofs.Lanes.{at_most, same, less, lanes_own, lanes_list, top_mask}

-- The bytes of a word, and how many of them are a unit's, by its low and its high byte.
abbrev pub last_byte : ℕ → ℕ
last_byte l = (l % 64 + 128) % 256

abbrev pub middle_bits : ℕ → ℕ → ℕ
middle_bits l h = (h % 16 * 4 % 256 + l / 64) % 256

abbrev pub is_three : ℕ → Bool
is_three h = top 7 (at_most 8 h)

abbrev pub is_one : ℕ → ℕ → Bool
is_one l h = top 7 (bit_and (same h 0) (less l 128))

abbrev pub first_byte : ℕ → ℕ → ℕ
first_byte l h = cond (is_three h) ((h / 16 + 224) % 256) (cond (is_one l h) l ((middle_bits l h + 192) % 256))

abbrev pub second_byte : ℕ → ℕ → ℕ
second_byte l h = cond (is_three h) ((middle_bits l h + 128) % 256) (last_byte l)

abbrev pub byte_count : ℕ → ℕ → ℕ
byte_count l h = cond (is_three h) 3 (cond (is_one l h) 1 2)

abbrev pub word : ℕ → ℕ → List ℕ
word l h = first_byte l h ∷ second_byte l h ∷ last_byte l ∷ last_byte l ∷ []

top_both : (a b : Bool) → top 7 (bit_and (cond a 255 0) (cond b 255 0)) ≡ a && b
top_both true true = refl
top_both true false = refl
top_both false true = refl
top_both false false = refl

pub three_from : (h : ℕ) → is_three h ≡ true → 8 ≤ h
three_from h e = let t : leb 8 h ≡ true = sym (top_mask (leb 8 h)) ∙ e in grind (arith, nat_tests)

pub three_below : (h : ℕ) → is_three h ≡ false → h < 8
three_below h e = let t : leb 8 h ≡ false = sym (top_mask (leb 8 h)) ∙ e in grind (arith, nat_tests)

one_from : (l h : ℕ) → is_one l h ≡ true → (l < 128) × (h ≡ 0)
one_from l h e =
    let t : (eqb h 0 && ltb l 128) ≡ true = sym (top_both (eqb h 0) (ltb l 128)) ∙ e in
    (grind (arith, nat_tests), grind (arith, nat_tests))

one_not : (l h : ℕ) → is_one l h ≡ false → 128 ≤ l + 256 * h
one_not l h e =
    let t : (eqb h 0 && ltb l 128) ≡ false = sym (top_both (eqb h 0) (ltb l 128)) ∙ e in
    go (eqb h 0) refl t
  where
    go : (z : Bool) → eqb h 0 ≡ z → (z && ltb l 128) ≡ false → 128 ≤ l + 256 * h
    go true p q = let low : 128 ≤ l = grind (arith, nat_tests) in omega arith
    go false p q = let some : 0 < h = grind (arith, nat_tests) in omega arith

lead_is : (l h : ℕ) → l < 256 → h < 256 → (h / 16 + 224) % 256 ≡ 224 + (l + 256 * h) / 4096
lead_is l h l256 h256 = omega arith

middle_is : (l h : ℕ) → l < 256 → h < 256 → (middle_bits l h + 128) % 256 ≡ 128 + (l + 256 * h) / 64 % 64
middle_is l h l256 h256 = omega arith

last_is : (l h : ℕ) → l < 256 → h < 256 → last_byte l ≡ 128 + (l + 256 * h) % 64
last_is l h l256 h256 = omega arith

two_is : (l h : ℕ) → l < 256 → h < 8 → (middle_bits l h + 192) % 256 ≡ 192 + (l + 256 * h) / 64
two_is l h l256 h8 = omega arith

-- the first bytes of a unit's word are its UTF-8
pub word_is : (l h : ℕ) → l < 256 → h < 256 → take (byte_count l h) (word l h) ≡ encode_utf8 (l + 256 * h)
word_is l h l256 h256 = by (is_three h) refl (is_one l h) refl
  where
    u : ℕ
    u = l + 256 * h

    three : is_three h ≡ true → take (byte_count l h) (word l h) ≡ encode_utf8 (l + 256 * h)
    three t =
        let high : 8 ≤ h = three_from h t in
        ap (λ n. take n (word l h)) (cond-true _ _ _ t)
        ∙ ap₂ (λ x y. x ∷ y ∷ last_byte l ∷ []) (cond-true _ _ _ t ∙ lead_is l h l256 h256)
        (cond-true _ _ _ t ∙ middle_is l h l256 h256)
        ∙ ap (λ z. (224 + (l + 256 * h) / 4096) ∷ (128 + (l + 256 * h) / 64 % 64) ∷ z ∷ []) (last_is l h l256 h256)
        ∙ sym (encode_utf8_3 (l + 256 * h) (omega arith) (omega arith))

    one : is_three h ≡ false → is_one l h ≡ true → take (byte_count l h) (word l h) ≡ encode_utf8 (l + 256 * h)
    one t o =
        let low = one_from l h o in
        let is : l ≡ l + 256 * h = omega (arith, low.1) in
        ap (λ n. take n (word l h)) (cond-false _ _ _ t ∙ cond-true _ _ _ o)
        ∙ ap (λ x. x ∷ []) (cond-false _ _ _ t ∙ cond-true _ _ _ o ∙ is)
        ∙ sym (encode_utf8_1 (l + 256 * h) (omega (arith, low.0, low.1)))

    two : is_three h ≡ false → is_one l h ≡ false → take (byte_count l h) (word l h) ≡ encode_utf8 (l + 256 * h)
    two t o =
        let h8 : h < 8 = three_below h t in
        let from : 128 ≤ l + 256 * h = one_not l h o in
        ap (λ n. take n (word l h)) (cond-false _ _ _ t ∙ cond-false _ _ _ o)
        ∙ ap₂ (λ x y. x ∷ y ∷ []) (cond-false _ _ _ t ∙ cond-false _ _ _ o ∙ two_is l h l256 h8)
        (cond-false _ _ _ t ∙ last_is l h l256 h256)
        ∙ sym (encode_utf8_2 (l + 256 * h) from (omega arith))

    by : (t : Bool) → is_three h ≡ t → (o : Bool) → is_one l h ≡ o
        → take (byte_count l h) (word l h) ≡ encode_utf8 (l + 256 * h)
    by true t o q = three t
    by false t true q = one t q
    by false t false q = two t q

-- a unit has at most three bytes
pub count_few : (l h : ℕ) → byte_count l h ≤ 3
count_few l h = by (is_three h) (is_one l h)
  where
    by : (t o : Bool) → cond t 3 (cond o 1 2) ≤ 3
    by true o = omega arith
    by false true = omega arith
    by false false = omega arith

-- the first bytes of words, one after another
fronts_from : (n start : ℕ) (f g h count u : ℕ → ℕ)
    → ((k : ℕ) → k < start + n → take (count k) (f k ∷ g k ∷ h k ∷ h k ∷ []) ≡ encode_utf8 (u k))
    → fronts (flat_map (λ k. f k ∷ g k ∷ h k ∷ h k ∷ []) (range_with_len start n)) (map count (range_with_len start n))
    ≡ encode_utf8_all (map u (range_with_len start n))
fronts_from zero start f g h count u is = refl
fronts_from (suc n) start f g h count u is =
    ap₂ (λ x y. x ++ y) (is start (omega arith))
    (fronts_from n (start + 1) f g h count u (λ k lt. is k (omega arith)))

abbrev pub in_pairs : List ℕ
in_pairs = 0 ∷ 16 ∷ 1 ∷ 17 ∷ 2 ∷ 18 ∷ 3 ∷ 19 ∷ 4 ∷ 20 ∷ 5 ∷ 21 ∷ 6 ∷ 22 ∷ 7 ∷ 23 ∷ 8 ∷ 24 ∷ 9 ∷ 25 ∷ 10 ∷ 26 ∷ 11 ∷ 27
    ∷ 12 ∷ 28 ∷ 13 ∷ 29 ∷ 14 ∷ 30 ∷ 15 ∷ 31 ∷ []

abbrev pub twice : List ℕ
twice = 0 ∷ 0 ∷ 1 ∷ 1 ∷ 2 ∷ 2 ∷ 3 ∷ 3 ∷ 4 ∷ 4 ∷ 5 ∷ 5 ∷ 6 ∷ 6 ∷ 7 ∷ 7 ∷ 8 ∷ 8 ∷ 9 ∷ 9 ∷ 10 ∷ 10 ∷ 11 ∷ 11 ∷ 12 ∷ 12
    ∷ 13 ∷ 13 ∷ 14 ∷ 14 ∷ 15 ∷ 15 ∷ []

abbrev pub in_fours : List ℕ
in_fours = 0 ∷ 1 ∷ 32 ∷ 33 ∷ 2 ∷ 3 ∷ 34 ∷ 35 ∷ 4 ∷ 5 ∷ 36 ∷ 37 ∷ 6 ∷ 7 ∷ 38 ∷ 39 ∷ 8 ∷ 9 ∷ 40 ∷ 41 ∷ 10 ∷ 11 ∷ 42 ∷ 43
    ∷ 12 ∷ 13 ∷ 44 ∷ 45 ∷ 14 ∷ 15 ∷ 46 ∷ 47 ∷ 16 ∷ 17 ∷ 48 ∷ 49 ∷ 18 ∷ 19 ∷ 50 ∷ 51 ∷ 20 ∷ 21 ∷ 52 ∷ 53 ∷ 22 ∷ 23
    ∷ 54 ∷ 55 ∷ 24 ∷ 25 ∷ 56 ∷ 57 ∷ 26 ∷ 27 ∷ 58 ∷ 59 ∷ 28 ∷ 29 ∷ 60 ∷ 61 ∷ 30 ∷ 31 ∷ 62 ∷ 63 ∷ []

abbrev pub shuffled : List ℕ → List ℕ → List ℕ → List ℕ
shuffled first second last =
    pick_l 0 (pick_l 0 (first ++ second) in_pairs ++ pick_l 0 (last ++ last) twice) in_fours

shuffled_is : (f g h : ℕ → ℕ)
    → shuffled (map f (range_with_len 0 16)) (map g (range_with_len 0 16)) (map h (range_with_len 0 16))
    ≡ flat_map (λ k. f k ∷ g k ∷ h k ∷ h k ∷ []) (range_with_len 0 16)
shuffled_is f g h = refl

-- the words of a block, by the lists of their bytes
pub words_are : (l h : ℕ → ℕ) (units first second last counts : List ℕ)
    → ((k : ℕ) → k < 16 → (l k < 256) × (h k < 256))
    → units ≡ map (λ k. l k + 256 * h k) (range_with_len 0 16)
    → first ≡ map (λ k. first_byte (l k) (h k)) (range_with_len 0 16)
    → second ≡ map (λ k. second_byte (l k) (h k)) (range_with_len 0 16)
    → last ≡ map (λ k. last_byte (l k)) (range_with_len 0 16)
    → counts ≡ map (λ k. byte_count (l k) (h k)) (range_with_len 0 16)
    → fronts (shuffled first second last) counts ≡ encode_utf8_all units
words_are l h units first second last counts small us fs ss ls cs =
    let is = range_with_len 0 16 in
    let f : ℕ → ℕ = λ k. first_byte (l k) (h k) in
    let g : ℕ → ℕ = λ k. second_byte (l k) (h k) in
    let e : ℕ → ℕ = λ k. last_byte (l k) in
    let n : ℕ → ℕ = λ k. byte_count (l k) (h k) in
    ap₂ (λ x c. fronts (shuffled x second last) c) fs cs
    ∙ ap₂ (λ y z. fronts (shuffled (map f is) y z) (map n is)) ss ls
    ∙ ap (λ w. fronts w (map n is)) (shuffled_is f g e)
    ∙ fronts_from 16 0 f g e n (λ k. l k + 256 * h k) (λ k lt.
    let within : k < 16 = omega arith in
    word_is (l k) (h k) (small k within).0 (small k within).1)
    ∙ sym (ap encode_utf8_all us)

-- The first three bytes of each word of a block, in three vectors.
abbrev pub starts : List ℕ
starts = 0 ∷ 1 ∷ 2 ∷ 4 ∷ 5 ∷ 6 ∷ 8 ∷ 9 ∷ 10 ∷ 12 ∷ 13 ∷ 14 ∷ 16 ∷ 17 ∷ 18 ∷ 20 ∷ []

abbrev pub middles : List ℕ
middles = 21 ∷ 22 ∷ 24 ∷ 25 ∷ 26 ∷ 28 ∷ 29 ∷ 30 ∷ 32 ∷ 33 ∷ 34 ∷ 36 ∷ 37 ∷ 38 ∷ 40 ∷ 41 ∷ []

abbrev pub ends : List ℕ
ends = 42 ∷ 44 ∷ 45 ∷ 46 ∷ 48 ∷ 49 ∷ 50 ∷ 52 ∷ 53 ∷ 54 ∷ 56 ∷ 57 ∷ 58 ∷ 60 ∷ 61 ∷ 62 ∷ []

abbrev pub picked : List ℕ → List ℕ
picked words = pick_l 0 (words ++ words) starts ++ (pick_l 0 (words ++ words) middles ++ pick_l 0 (words ++ words) ends)

picked_is : (f : ℕ → ℕ)
    → picked (map f (range_with_len 0 64)) ≡ fronts (map f (range_with_len 0 64)) (replicate 16 3)
picked_is f = refl

pub threes_are : (words : List ℕ) → length words ≡ 64 → picked words ≡ fronts words (replicate 16 3)
threes_are words long =
    let f : ℕ → ℕ = λ k. get_or words k 0 in
    let own = lanes_list 64 words f f (lanes_own 64 words long) (λ k lt. refl) in
    ap picked own ∙ picked_is f ∙ sym (ap (λ w. fronts w (replicate 16 3)) own)

-- ASCII units are their low bytes
pub ascii_units : (low high : List ℕ) → length low ≡ length high
    → ((k : ℕ) → k < length low → (slice_index low k < 0x80) × (slice_index high k ≡ 0))
    → encode_utf8_all (units_of low high) ≡ low
ascii_units [] high long f = refl
ascii_units (l ∷ ls) [] long f = absurd (omega arith)
ascii_units (l ∷ ls) (h ∷ hs) long f =
    let here = f 0 (omega arith) in
    let is : l + 256 * h ≡ l = omega (arith, here.1) in
    ap₂ (λ x y. x ++ y)
    (encode_utf8_1 (l + 256 * h) (omega (arith, here.0, is)) ∙ ap (λ u. u ∷ []) is)
    (ascii_units ls hs (omega arith) (λ k lt. f (suc k) (omega arith)))

-- units whose high bytes are those of no surrogate are characters
pub scalars_are : (low high : List ℕ) → ((k : ℕ) → k < length low → slice_index low k < 256)
    → ((k : ℕ) → k < length high → slice_index high k < 256)
    → ((k : ℕ) → k < length high → (slice_index high k < 0xD8) ⊎ (0xE0 ≤ slice_index high k))
    → all_scalars (units_of low high) ≡ true
scalars_are [] high f g lack = refl
scalars_are (l ∷ ls) [] f g lack = refl
scalars_are (l ∷ ls) (h ∷ hs) f g lack =
    let l256 = f 0 (omega arith) in
    let h256 = g 0 (omega arith) in
    and_from _ _
    (IsScalar-from_bounds (l + 256 * h) (elim (lack 0 (omega arith)) [
      | inl a ↦ inl (omega (arith, l256, a))
      | inr a ↦ inr (omega (arith, a), omega (arith, l256, h256))
    ]))
    (scalars_are ls hs (λ k lt. f (suc k) (omega arith)) (λ k lt. g (suc k) (omega arith))
    (λ k lt. lack (suc k) (omega arith)))
