-- 16-bit units and their two bytes each.
use Rattle.std.proofs.Common.{◌≡◌, ◌≢◌, ℕ, ◌+◌, ◌*◌, ◌/◌, ◌%◌, ◌<◌, List, [], ◌∷◌, ◌++◌, ◌-◌, ◌≤◌, length, take, drop}
use Rattle.std.proofs.Common.{get_or, refl, sym, ap, ap₂, ◌∙◌, arith, append-nil, take_all}
use Rattle.std.proofs.lemmas.List.{take_more}
use Rattle.tendril_lines.specs.Words.{big_endian}

-- one more unit at the end
pub big_endian-more : (us : List ℕ) (high low : ℕ) (rest : List ℕ) → low < 0x100
    → big_endian us ++ (high ∷ low ∷ rest) ≡ big_endian (us ++ (high * 0x100 + low) ∷ []) ++ rest
big_endian-more [] high low rest small = ap₂ (λ x y. x ∷ y ∷ rest) (omega arith) (omega arith)
big_endian-more (u ∷ us) high low rest small =
    ap (λ l. u / 0x100 ∷ u % 0x100 ∷ l) (big_endian-more us high low rest small)

pub big_endian-append : (us : List ℕ) (u : ℕ) → big_endian us ++ (u / 0x100 ∷ u % 0x100 ∷ [])
    ≡ big_endian (us ++ u ∷ [])
big_endian-append [] u = refl
big_endian-append (v ∷ us) u = ap (λ l. v / 0x100 ∷ v % 0x100 ∷ l) (big_endian-append us u)

-- units with the same bytes are the same
pub big_endian-same : (us vs : List ℕ) → big_endian us ≡ big_endian vs → us ≡ vs
big_endian-same [] [] e = refl
big_endian-same [] (v ∷ vs) e = cc
big_endian-same (u ∷ us) [] e = cc
big_endian-same (u ∷ us) (v ∷ vs) e =
    let high : u / 0x100 ≡ v / 0x100 = cc in
    let low : u % 0x100 ≡ v % 0x100 = cc in
    let rest : big_endian us ≡ big_endian vs = cc in
    ap₂ (λ x xs. x ∷ xs) (omega arith) (big_endian-same us vs rest)

-- units don't have an odd number of bytes
pub big_endian-even : (us vs : List ℕ) (b : ℕ) → big_endian us ≢ big_endian vs ++ b ∷ []
big_endian-even [] [] b e = cc
big_endian-even [] (v ∷ vs) b e = cc
big_endian-even (u ∷ us) [] b e = cc
big_endian-even (u ∷ us) (v ∷ vs) b e = let rest : big_endian us ≡ big_endian vs ++ b ∷ [] = cc in
    big_endian-even us vs b rest

-- the bytes of one more unit
pub big_endian-next : (us : List ℕ) (i : ℕ) → i < length us → big_endian (take (i + 1) us)
    ≡ big_endian (take i us) ++ (get_or us i 0 / 0x100 ∷ get_or us i 0 % 0x100 ∷ [])
big_endian-next us i h = ap big_endian (take_more us i 0 h) ∙ sym (big_endian-append (take i us) (get_or us i 0))

-- two bytes of the remainder are a unit
pub pair_taken : (us rest : List ℕ) → 2 ≤ length rest → get_or rest 1 0 < 0x100 → big_endian us ++ rest
    ≡ big_endian (us ++ (get_or rest 0 0 * 0x100 + get_or rest 1 0) ∷ []) ++ take (length rest - 2) (drop 2 rest)
pair_taken us [] some small = absurd (omega arith)
pair_taken us (b ∷ []) some small = absurd (omega arith)
pair_taken us (high ∷ low ∷ rest) some small = big_endian-more us high low rest small
    ∙ ap (λ l. big_endian (us ++ (high * 0x100 + low) ∷ []) ++ l)
    (sym (take_all (length (high ∷ low ∷ rest) - 2) rest (omega arith)))

-- if no byte is left over, the bytes are those of these units and no others
pub all_paired : (bytes us rest : List ℕ) → bytes ≡ big_endian us ++ rest → length rest ≡ 0 → (vs : List ℕ)
    → (us ≡ vs → bytes ≡ big_endian vs) × (bytes ≡ big_endian vs → us ≡ vs)
all_paired bytes us [] e none vs =
    let all : bytes ≡ big_endian us = e ∙ append-nil (big_endian us) in
    (λ same. all ∙ ap big_endian same, λ h. big_endian-same us vs (sym all ∙ h))
all_paired bytes us (b ∷ rest) e none vs = absurd (omega arith)

-- if one is, they are those of no units
pub left_over : (bytes us rest : List ℕ) → bytes ≡ big_endian us ++ rest → length rest ≡ 1 → (vs : List ℕ)
    → bytes ≢ big_endian vs
left_over bytes us [] e one vs h = absurd (omega arith)
left_over bytes us (b ∷ []) e one vs h = big_endian-even vs us b (sym h ∙ e)
left_over bytes us (b ∷ d ∷ rest) e one vs h = absurd (omega arith)
