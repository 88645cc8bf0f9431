-- Words of at most eight bytes, of two halves that overlap.
use Rattle.std.proofs.Common.{◌≡◌, ℕ, ◌+◌, ◌-◌, ◌*◌, ◌/◌, ◌%◌, ◌^◌, ◌<◌, ◌≤◌, List, [], ◌∷◌, ◌++◌, length, take, drop}
use Rattle.std.proofs.Common.{zero, suc, get_or, replicate, bit_or, refl, ap, ◌∙◌, arith, length-append}
use Rattle.std.specs.Int.{to_le_bytes, from_le_bytes, w16, w32, w64}
use Rattle.std.proofs.lemmas.Nat.{le_bytes_8, or_comm, or_shifted, shl_whole, shr_le}
use Rattle.std.proofs.lemmas.List.{length-replicate, take_at}

abbrev AreBytes : List ℕ → Type 0
AreBytes xs = (i : ℕ) → get_or xs i 0 < 256

zeros : (k i : ℕ) → get_or (replicate k 0) i 0 < 256
zeros zero i = omega arith
zeros (suc k) zero = omega arith
zeros (suc k) (suc i) = zeros k i

padded : (xs : List ℕ) (k : ℕ) → AreBytes xs → AreBytes (xs ++ replicate k 0)
padded [] k small i = zeros k i
padded (x ∷ xs) k small zero = small 0
padded (x ∷ xs) k small (suc i) = padded xs k (λ j. small (suc j)) i

-- the bytes of a word whose other bytes are zero
whole : (xs : List ℕ) (n : ℕ) → length xs ≤ 8 → AreBytes xs
    → n ≡ from_le_bytes w64 (xs ++ replicate (8 - length xs) 0) → take (length xs) (to_le_bytes w64 n) ≡ xs
whole xs n short small is =
    let rest : List ℕ = replicate (8 - length xs) 0 in
    let len : length (xs ++ rest) ≡ 8 =
    omega (arith, length-append xs rest, length-replicate {A = ℕ} (8 - length xs) 0) in
    ap (take (length xs)) (le_bytes_8 (xs ++ rest) n len (padded xs (8 - length xs) small) is)
    ∙ take_at xs rest (length xs) refl

-- the bytes of `last` from bit j on, after the k bits of `low`
joined : (xs : List ℕ) (low last j k : ℕ) → length xs ≤ 8 → k ≤ 32 → AreBytes xs → low < 2 ^ k → last < 2 ^ k
    → last / 2 ^ j * 2 ^ k + low ≡ from_le_bytes w64 (xs ++ replicate (8 - length xs) 0)
    → take (length xs) (to_le_bytes w64 (bit_or low (last / 2 ^ j * 2 ^ k % 2 ^ 64))) ≡ xs
joined xs low last j k short half small low_fits last_fits is =
    let high : ℕ = last / 2 ^ j in
    let less : high ≤ last = shr_le last j in
    let fits : high * 2 ^ k % 2 ^ 64 ≡ high * 2 ^ k = shl_whole high k k 64 (omega arith) (omega arith) in
    whole xs _ short small
    (ap (bit_or low) fits ∙ or_comm low (high * 2 ^ k) ∙ or_shifted high k low low_fits ∙ is)

-- the first four bytes, and those of the last four that aren't among them
pub halves_of_8 : (xs : List ℕ) (low last : ℕ) → 4 ≤ length xs → length xs ≤ 8 → AreBytes xs → low < 2 ^ 32
    → last < 2 ^ 32 → low ≡ from_le_bytes w32 (take 4 xs) → last ≡ from_le_bytes w32 (drop (length xs - 4) xs)
    → take (length xs) (to_le_bytes w64 (bit_or low (last / 2 ^ (8 * (8 - length xs)) * 2 ^ 32 % 2 ^ 64))) ≡ xs
halves_of_8 [] low last h s small low_fits last_fits is end = absurd (omega arith)
halves_of_8 (a ∷ []) low last h s small low_fits last_fits is end = absurd (omega arith)
halves_of_8 (a ∷ b ∷ []) low last h s small low_fits last_fits is end = absurd (omega arith)
halves_of_8 (a ∷ b ∷ c ∷ []) low last h s small low_fits last_fits is end = absurd (omega arith)
halves_of_8 (a ∷ b ∷ c ∷ d ∷ []) low last h s small low_fits last_fits is end =
    joined _ low last 32 32 (omega arith) (omega arith) small low_fits last_fits
    (omega (arith, small 0, small 1, small 2, small 3))
halves_of_8 (a ∷ b ∷ c ∷ d ∷ e ∷ []) low last h s small low_fits last_fits is end =
    joined _ low last 24 32 (omega arith) (omega arith) small low_fits last_fits
    (omega (arith, small 0, small 1, small 2, small 3, small 4))
halves_of_8 (a ∷ b ∷ c ∷ d ∷ e ∷ f ∷ []) low last h s small low_fits last_fits is end =
    joined _ low last 16 32 (omega arith) (omega arith) small low_fits last_fits
    (omega (arith, small 0, small 1, small 2, small 3, small 4, small 5))
halves_of_8 (a ∷ b ∷ c ∷ d ∷ e ∷ f ∷ g ∷ []) low last h s small low_fits last_fits is end =
    joined _ low last 8 32 (omega arith) (omega arith) small low_fits last_fits
    (omega (arith, small 0, small 1, small 2, small 3, small 4, small 5, small 6))
halves_of_8 (a ∷ b ∷ c ∷ d ∷ e ∷ f ∷ g ∷ k ∷ []) low last h s small low_fits last_fits is end =
    joined _ low last 0 32 (omega arith) (omega arith) small low_fits last_fits
    (omega (arith, small 0, small 1, small 2, small 3, small 4, small 5, small 6, small 7))
halves_of_8 (a ∷ b ∷ c ∷ d ∷ e ∷ f ∷ g ∷ k ∷ y ∷ xs) low last h s small low_fits last_fits is end = absurd (omega arith)

-- the first two bytes, and those of the last two that aren't among them
pub halves_of_4 : (xs : List ℕ) (low last : ℕ) → 2 ≤ length xs → length xs < 4 → AreBytes xs → low < 2 ^ 16
    → last < 2 ^ 16 → low ≡ from_le_bytes w16 (take 2 xs) → last ≡ from_le_bytes w16 (drop (length xs - 2) xs)
    → take (length xs) (to_le_bytes w64 (bit_or low (last / 2 ^ (8 * (4 - length xs)) * 2 ^ 16 % 2 ^ 64))) ≡ xs
halves_of_4 [] low last h s small low_fits last_fits is end = absurd (omega arith)
halves_of_4 (a ∷ []) low last h s small low_fits last_fits is end = absurd (omega arith)
halves_of_4 (a ∷ b ∷ []) low last h s small low_fits last_fits is end =
    joined _ low last 16 16 (omega arith) (omega arith) small low_fits last_fits
    (omega (arith, small 0, small 1))
halves_of_4 (a ∷ b ∷ c ∷ []) low last h s small low_fits last_fits is end =
    joined _ low last 8 16 (omega arith) (omega arith) small low_fits last_fits
    (omega (arith, small 0, small 1, small 2))
halves_of_4 (a ∷ b ∷ c ∷ d ∷ xs) low last h s small low_fits last_fits is end = absurd (omega arith)
