-- Bytes that encode a code point, by their ranges.
use Rattle.std.proofs.Common.{◌≡◌, ℕ, ◌+◌, ◌-◌, ◌*◌, ◌/◌, ◌%◌, ◌<◌, ◌≤◌, List, [], ◌∷◌, length, slice_index, ap, ◌∙◌}
use Rattle.std.proofs.Common.{arith}
use Rattle.std.specs.Char.{encode_utf8}
use Rattle.std.proofs.lemmas.Str.{length-encode, len_utf8_bounds}
use Rattle.tendril_fmt.specs.CodePoints.{IsCodePoint, IsContinuation}
use Rattle.tendril_fmt.specs.Proved.Encodings.{Shape, of1, of2, of3, of4, encode_utf8_2, encode_utf8_3, encode_utf8_4}
use Rattle.tendril_fmt.specs.Proved.Encodings.{point_shape}

-- bytes in the ranges of each length encode the number of their payload bits
pub spelt_2 : (a b : ℕ) → 194 ≤ a → a < 224 → IsContinuation b → encode_utf8 ((a - 192) * 64 + (b - 128)) ≡ a ∷ b ∷ []
spelt_2 a b l h f =
    let c = (a - 192) * 64 + (b - 128) in
    let p : 192 + c / 64 ≡ a = omega (arith, f.0, f.1) in
    let q : 128 + c % 64 ≡ b = omega (arith, f.0, f.1) in
    encode_utf8_2 c (omega arith) (omega (arith, f.1)) ∙ (λ i. p i ∷ q i ∷ [])

pub spelt_3 : (a b d : ℕ) → 224 ≤ a → a < 240 → IsContinuation b → IsContinuation d → let c : ℕ =
    (a - 224) * 4096 + (b - 128) * 64 + (d - 128) in 2048 ≤ c → encode_utf8 c ≡ a ∷ b ∷ d ∷ []
spelt_3 a b d l h f g m =
    let c = (a - 224) * 4096 + (b - 128) * 64 + (d - 128) in
    let p : 224 + c / 4096 ≡ a = omega (arith, f.0, f.1, g.0, g.1) in
    let q : 128 + (c / 64) % 64 ≡ b = omega (arith, f.0, f.1, g.0, g.1) in
    let r : 128 + c % 64 ≡ d = omega (arith, f.0, f.1, g.0, g.1) in
    encode_utf8_3 c m (omega (arith, f.0, f.1, g.0, g.1)) ∙ (λ i. p i ∷ q i ∷ r i ∷ [])

pub spelt_4 : (a b d e : ℕ) → 240 ≤ a → IsContinuation b → IsContinuation d → IsContinuation e → let c : ℕ =
    (a - 240) * 262144 + (b - 128) * 4096 + (d - 128) * 64 + (e - 128) in 65536 ≤ c → encode_utf8 c ≡ a ∷ b ∷ d ∷ e ∷ []
spelt_4 a b d e l f g k m =
    let c = (a - 240) * 262144 + (b - 128) * 4096 + (d - 128) * 64 + (e - 128) in
    let p : 240 + c / 262144 ≡ a = omega (arith, f.0, f.1, g.0, g.1, k.0, k.1) in
    let x : c / 64 ≡ (a - 240) * 4096 + (b - 128) * 64 + (d - 128) = omega (arith, k.0, k.1) in
    let y : c / 4096 ≡ (a - 240) * 64 + (b - 128) = omega (arith, g.0, g.1, k.0, k.1) in
    let q : 128 + (c / 4096) % 64 ≡ b = ap (λ n. 128 + n % 64) y ∙ omega (arith, f.0, f.1) in
    let r : 128 + (c / 64) % 64 ≡ d = ap (λ n. 128 + n % 64) x ∙ omega (arith, g.0, g.1) in
    let s : 128 + c % 64 ≡ e = omega (arith, k.0, k.1) in
    encode_utf8_4 c m ∙ (λ i. p i ∷ q i ∷ r i ∷ s i ∷ [])

-- what bytes of each length say of the code point that they encode
pub only_2 : (a b c : ℕ) → IsCodePoint c → a ∷ b ∷ [] ≡ encode_utf8 c → (194 ≤ a) × (a < 224) × IsContinuation b
only_2 a b c top s = by (point_shape c top)
  where
    by : Shape c → (194 ≤ a) × (a < 224) × IsContinuation b
    by (of1 h e) = absurd (omega (arith, ap length (s ∙ e)))
    by (of2 x y l h f t e) =
        let p : a ≡ x = ap (λ l. slice_index l 0) (s ∙ e) in
        let q : b ≡ y = ap (λ l. slice_index l 1) (s ∙ e) in
        (omega arith, omega arith, (omega (arith, f.0), omega (arith, f.1)))
    by (of3 x y z l h f g t m e) = absurd (omega (arith, ap length (s ∙ e)))
    by (of4 x y z w l h f g k t m e) = absurd (omega (arith, ap length (s ∙ e)))

pub only_3 : (a b d c : ℕ) → IsCodePoint c → a ∷ b ∷ d ∷ [] ≡ encode_utf8 c → (224 ≤ a) × (a < 240) × IsContinuation b
    × IsContinuation d × (2048 ≤ (a - 224) * 4096 + (b - 128) * 64 + (d - 128))
only_3 a b d c top s = by (point_shape c top)
  where
    by : Shape c → (224 ≤ a) × (a < 240) × IsContinuation b × IsContinuation d
        × (2048 ≤ (a - 224) * 4096 + (b - 128) * 64 + (d - 128))
    by (of1 h e) = absurd (omega (arith, ap length (s ∙ e)))
    by (of2 x y l h f t e) = absurd (omega (arith, ap length (s ∙ e)))
    by (of3 x y z l h f g t m e) =
        let p : a ≡ x = ap (λ l. slice_index l 0) (s ∙ e) in
        let q : b ≡ y = ap (λ l. slice_index l 1) (s ∙ e) in
        let r : d ≡ z = ap (λ l. slice_index l 2) (s ∙ e) in (
          omega arith,
          omega arith,
          (omega (arith, f.0), omega (arith, f.1)),
          (omega (arith, g.0), omega (arith, g.1)),
          omega (arith, f.0, g.0),
        )
    by (of4 x y z w l h f g k t m e) = absurd (omega (arith, ap length (s ∙ e)))

pub only_4 : (a b d e c : ℕ) → IsCodePoint c → a ∷ b ∷ d ∷ e ∷ [] ≡ encode_utf8 c
    → (240 ≤ a) × (a < 245) × IsContinuation b × IsContinuation d × IsContinuation e
    × (let k : ℕ = (a - 240) * 262144 + (b - 128) * 4096 + (d - 128) * 64 + (e - 128) in
    (65536 ≤ k) × (k < 0x11_0000))
only_4 a b d e c top s = by (point_shape c top)
  where
    by : Shape c → (240 ≤ a) × (a < 245) × IsContinuation b × IsContinuation d × IsContinuation e
        × (let k : ℕ = (a - 240) * 262144 + (b - 128) * 4096 + (d - 128) * 64 + (e - 128) in
        (65536 ≤ k) × (k < 0x11_0000))
    by (of1 h i) = absurd (omega (arith, ap length (s ∙ i)))
    by (of2 x y l h f t i) = absurd (omega (arith, ap length (s ∙ i)))
    by (of3 x y z l h f g t m i) = absurd (omega (arith, ap length (s ∙ i)))
    by (of4 x y z w l h f g k t m i) =
        let p : a ≡ x = ap (λ l. slice_index l 0) (s ∙ i) in
        let q : b ≡ y = ap (λ l. slice_index l 1) (s ∙ i) in
        let r : d ≡ z = ap (λ l. slice_index l 2) (s ∙ i) in
        let u : e ≡ w = ap (λ l. slice_index l 3) (s ∙ i) in (
          omega arith,
          omega arith,
          (omega (arith, f.0), omega (arith, f.1)),
          (omega (arith, g.0), omega (arith, g.1)),
          (omega (arith, k.0), omega (arith, k.1)),
          (omega (arith, f.0, g.0, k.0), omega (arith, f.0, g.0, k.0, top)),
        )

-- a code point has one to four bytes
pub encoded-bounds : (bs : List ℕ) (c : ℕ) → bs ≡ encode_utf8 c → (1 ≤ length bs) × (length bs ≤ 4)
encoded-bounds bs c s = (
  omega (arith, ap length s, length-encode c, (len_utf8_bounds c).0),
  omega
      (arith, ap length s, length-encode c, (len_utf8_bounds c).1),
)

-- a code point of one byte is that byte, and ASCII
pub one_byte : (bs : List ℕ) (c : ℕ) → IsCodePoint c → bs ≡ encode_utf8 c → length bs < 2 → slice_index bs 0 < 128
one_byte bs c top s short = by (point_shape c top)
  where
    by : Shape c → slice_index bs 0 < 128
    by (of1 h e) = omega (arith, ap (λ l. slice_index l 0) (s ∙ e))
    by (of2 x y l h f t e) = absurd (omega (arith, ap length (s ∙ e)))
    by (of3 x y z l h f g t m e) = absurd (omega (arith, ap length (s ∙ e)))
    by (of4 x y z w l h f g k t m e) = absurd (omega (arith, ap length (s ∙ e)))
