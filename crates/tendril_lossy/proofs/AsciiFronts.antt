-- How many of a number's bytes are ASCII before the first that isn't: the lowest of its bytes' highest bits shows it.
use Rattle.std.proofs.Common.{◌≡◌, ℕ, zero, suc, ◌+◌, ◌-◌, ◌*◌, ◌/◌, ◌%◌, ◌^◌, ◌<◌, ◌≤◌, min, List, [], ◌∷◌}
use Rattle.std.proofs.Common.{slice_index, refl, sym, ap, ap₂, ◌∙◌, arith, ⊎_elim, bit_and}
use Rattle.std.specs.Int.{bit_at, from_le_bytes, trailing_zeros, w64}
use Rattle.std.proofs.lemmas.Bool.{cases_lt}
use Rattle.std.proofs.lemmas.List.{get_or-replicate, get_or_past}
use Rattle.std.proofs.lemmas.Nat.Bits.{bit_at-zero, bit_at_and, bit_at_cat_low, bit_at_cat_high, bit_at-trailing_zeros}
use Rattle.std.proofs.lemmas.Nat.{and_le_r}
use lib.Count.{trailing_of_zero, trailing_le}
use lib.ListN.{replicate}

-- the number whose digits in base 256 are these bytes, from the lowest on
number : List ℕ → ℕ
number [] = 0
number (b ∷ bs) = number bs * 2 ^ 8 + b

-- its bits are those of its bytes
bit_of : (bs : List ℕ) (k j : ℕ) → ((i : ℕ) → slice_index bs i < 256) → j < 8 → bit_at (number bs) (8 * k + j)
    ≡ bit_at (slice_index bs k) j
unfolding number
bit_of [] k j small lt = bit_at-zero (8 * k + j) ∙ sym (bit_at-zero j)
bit_of (b ∷ bs) zero j small lt = let at : 8 * 0 + j ≡ j = omega arith in ap (bit_at (number bs * 2 ^ 8 + b)) at
    ∙ bit_at_cat_low (number bs) 8 b j lt
bit_of (b ∷ bs) (suc k) j small lt =
    let at : 8 * suc k + j - 8 ≡ 8 * k + j = omega arith in
    bit_at_cat_high (number bs) 8 b (8 * suc k + j) (small 0) (omega arith) ∙ ap (bit_at (number bs)) at
    ∙ bit_of bs k j (λ i. small (suc i)) lt

eight : List ℕ → List ℕ
eight bs = slice_index bs 0 ∷ slice_index bs 1 ∷ slice_index bs 2 ∷ slice_index bs 3 ∷ slice_index bs 4 ∷ slice_index
    bs 5 ∷ slice_index bs 6 ∷ slice_index bs 7 ∷ []

word_is : (bs : List ℕ) → from_le_bytes w64 bs ≡ number (eight bs)
unfolding number eight
word_is bs = omega arith

-- each of the eight bytes
each : (bs : List ℕ) (k : ℕ) → k < 8 → slice_index (eight bs) k ≡ slice_index bs k
unfolding eight
each bs zero lt = refl
each bs (suc zero) lt = refl
each bs (suc (suc zero)) lt = refl
each bs (suc (suc (suc zero))) lt = refl
each bs (suc (suc (suc (suc zero)))) lt = refl
each bs (suc (suc (suc (suc (suc zero))))) lt = refl
each bs (suc (suc (suc (suc (suc (suc zero)))))) lt = refl
each bs (suc (suc (suc (suc (suc (suc (suc zero))))))) lt = refl
each bs (suc (suc (suc (suc (suc (suc (suc (suc k)))))))) lt = absurd (omega arith)

eight-small : (bs : List ℕ) → ((i : ℕ) → slice_index bs i < 256) → (i : ℕ) → slice_index (eight bs) i < 256
unfolding eight
eight-small bs small zero = small 0
eight-small bs small (suc zero) = small 1
eight-small bs small (suc (suc zero)) = small 2
eight-small bs small (suc (suc (suc zero))) = small 3
eight-small bs small (suc (suc (suc (suc zero)))) = small 4
eight-small bs small (suc (suc (suc (suc (suc zero))))) = small 5
eight-small bs small (suc (suc (suc (suc (suc (suc zero)))))) = small 6
eight-small bs small (suc (suc (suc (suc (suc (suc (suc zero))))))) = small 7
eight-small bs small (suc (suc (suc (suc (suc (suc (suc (suc k)))))))) = omega arith

marks-small : (i : ℕ) → slice_index (replicate 8 128) i < 256
marks-small i = ⊎_elim
    (λ (h : i < 8). omega (arith, get_or-replicate {A = ℕ} 8 i 128 0 h))
    (λ (h : 8 ≤ i). omega (arith, get_or_past {X = ℕ} (replicate 8 128) i 0 h))
    (cases_lt i 8)

-- the highest bit of each byte
abbrev mask : ℕ
mask = 0x8080_8080_8080_8080

mask_is : mask ≡ number (eight (replicate 8 128))
unfolding number eight
mask_is = refl

bit_of_word : (bs : List ℕ) (k j : ℕ) → ((i : ℕ) → slice_index bs i < 256) → k < 8 → j < 8
    → bit_at (from_le_bytes w64 bs) (8 * k + j) ≡ bit_at (slice_index bs k) j
bit_of_word bs k j small lt below =
    ap (λ n. bit_at n (8 * k + j)) (word_is bs) ∙ bit_of (eight bs) k j (eight-small bs small) below
    ∙ ap (λ b. bit_at b j) (each bs k lt)

bit_of_mask : (k j : ℕ) → k < 8 → j < 8 → bit_at mask (8 * k + j) ≡ bit_at 128 j
bit_of_mask k j lt below =
    ap (λ n. bit_at n (8 * k + j)) mask_is
    ∙ bit_of (eight (replicate 8 128)) k j (eight-small (replicate 8 128) marks-small) below
    ∙ ap (λ b. bit_at b j) (each (replicate 8 128) k lt ∙ get_or-replicate {A = ℕ} 8 k 128 0 lt)

top_bit : (b : ℕ) → bit_at b 7 ≡ b / 128 % 2
top_bit b = refl

only_top : (j : ℕ) → j < 7 → bit_at 128 j ≡ 0
only_top zero lt = refl
only_top (suc zero) lt = refl
only_top (suc (suc zero)) lt = refl
only_top (suc (suc (suc zero))) lt = refl
only_top (suc (suc (suc (suc zero)))) lt = refl
only_top (suc (suc (suc (suc (suc zero))))) lt = refl
only_top (suc (suc (suc (suc (suc (suc zero)))))) lt = refl
only_top (suc (suc (suc (suc (suc (suc (suc k))))))) lt = absurd (omega arith)

abbrev marked : ℕ → ℕ
marked word = bit_and word mask

-- masking keeps the highest bit of byte k, and none of its other bits
marked-top : (bs : List ℕ) (word k : ℕ) → word ≡ from_le_bytes w64 bs → ((i : ℕ) → slice_index bs i < 256) → k < 8
    → bit_at (marked word) (8 * k + 7) ≡ slice_index bs k / 128 % 2
marked-top bs word k is small lt =
    let b = slice_index bs k in
    let w : bit_at word (8 * k + 7) ≡ b / 128 % 2 = ap (λ n. bit_at n (8 * k + 7)) is
    ∙ bit_of_word bs k 7 small lt (omega arith) ∙ top_bit b in
    let m : bit_at mask (8 * k + 7) ≡ 1 = bit_of_mask k 7 lt (omega arith) in
    bit_at_and word mask (8 * k + 7) ∙ ap₂ min w m ∙ omega arith

marked-other : (word k j : ℕ) → k < 8 → j < 7 → bit_at (marked word) (8 * k + j) ≡ 0
marked-other word k j lt below =
    let m : bit_at mask (8 * k + j) ≡ 0 = bit_of_mask k j lt (omega arith) ∙ only_top j below in
    bit_at_and word mask (8 * k + j) ∙ ap (min (bit_at word (8 * k + j))) m ∙ omega arith

marked-fits : (word : ℕ) → marked word < 2 ^ 64
marked-fits word = omega (arith, and_le_r word mask)

abbrev front : ℕ → ℕ
front word = trailing_zeros w64 (marked word) / 8

pub front-within : (word : ℕ) → front word ≤ 8
front-within word = omega (arith, trailing_le 64 (marked word))

pub front-ascii : (bs : List ℕ) (word : ℕ) → word ≡ from_le_bytes w64 bs → ((i : ℕ) → slice_index bs i < 256)
    → (k : ℕ) → k < front word → slice_index bs k < 128
front-ascii bs word is small k lt =
    let within : k < 8 = omega (arith, front-within word) in
    let top = marked-top bs word k is small within in
    ⊎_elim
    (λ (h : marked word < 1).
    let none : marked word ≡ 0 = omega arith in
    let low : slice_index bs k / 128 % 2 ≡ 0 = sym top ∙ ap (λ n. bit_at n (8 * k + 7)) none
    ∙ bit_at-zero (8 * k + 7) in
    omega (arith, small k))
    (λ (h : 1 ≤ marked word).
    let low : slice_index bs k / 128 % 2 ≡ 0 = sym top
    ∙ (bit_at-trailing_zeros w64 (marked word) h (marked-fits word)).2 (8 * k + 7) (omega arith) in
    omega (arith, small k))
    (cases_lt (marked word) 1)

pub front-stops : (bs : List ℕ) (word : ℕ) → word ≡ from_le_bytes w64 bs → ((i : ℕ) → slice_index bs i < 256)
    → front word < 8 → 128 ≤ slice_index bs (front word)
front-stops bs word is small lt =
    let t = trailing_zeros w64 (marked word) in
    let k = front word in
    ⊎_elim
    (λ (h : marked word < 1).
    let none : marked word ≡ 0 = omega arith in
    let all : t ≡ 64 = ap (trailing_zeros w64) none ∙ trailing_of_zero 64 in
    absurd (omega arith))
    (λ (h : 1 ≤ marked word).
    let set : bit_at (marked word) t ≡ 1 = (bit_at-trailing_zeros w64 (marked word) h (marked-fits word)).1 in
    ⊎_elim
    (λ (g : t % 8 < 7).
    let at : 8 * k + t % 8 ≡ t = omega arith in
    let unset : bit_at (marked word) t ≡ 0 = ap (bit_at (marked word)) (sym at) ∙ marked-other word k (t % 8) lt g in
    absurd (omega arith))
    (λ (g : 7 ≤ t % 8).
    let at : 8 * k + 7 ≡ t = omega arith in
    let high : slice_index bs k / 128 % 2 ≡ 1 = sym (marked-top bs word k is small lt) ∙ ap (bit_at (marked word)) at
    ∙ set in
    omega (arith, small k))
    (cases_lt (t % 8) 7))
    (cases_lt (marked word) 1)
