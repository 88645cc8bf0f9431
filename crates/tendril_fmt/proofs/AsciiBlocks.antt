-- Blocks of ASCII, tested and written by vectors.
use Rattle.std.proofs.Common.{◌≡◌, ℕ, ◌+◌, ◌-◌, ◌*◌, ◌%◌, ◌^◌, ◌<◌, ◌≤◌, Bool, true, false, cond, eqb, leb}
use Rattle.std.proofs.Common.{List, [], ◌∷◌, ◌++◌, length, take, map, replicate, refl, sym, ap, ap₂, ◌∙◌}
use Rattle.std.proofs.Common.{arith, Decides, eq-eqb, eqb-true, leb-false, Fits, w8}
use borrow.Author.Tests.{lt-leb}
use Rattle.std.specs.List.{AllByRecursion}
use Rattle.std.specs.Simd.Lanes.{chunk, put_chunk, zip2, mask_l, top, Each1}
use Rattle.std.proofs.lemmas.List.{length-map, take_all}
use Rattle.std.proofs.lemmas.Simd.{tops_compared, zip2_splat_left, mask_l-mod, Each1-chunk, take_more_put_chunk}
use mir.Syntax.{Width}
use mir.Val.{bits, hbits}

none_high : (xs : List ℕ) → mask_l (map (λ x. leb 128 x) xs) ≡ 0 → AllByRecursion (λ b. b < 128) xs
none_high [] e = tt
none_high (x ∷ xs) e = (go (leb 128 x) refl (omega arith), none_high xs (omega arith))
  where
    go : (t : Bool) → leb 128 x ≡ t → ◌≡◌ {A = ℕ} (cond t 1 0) 0 → x < 128
    go true p q = absurd (omega arith)
    go false p q = leb-false _ _ p

high_none : (xs : List ℕ) → AllByRecursion (λ b. b < 128) xs → mask_l (map (λ x. leb 128 x) xs) ≡ 0
high_none [] h = refl
high_none (x ∷ xs) h = ap₂ (λ b m. cond b 1 0 + 2 * m) (lt-leb 128 x h.0) (high_none xs h.1)

-- the test that no lane is 128 or more
pub all_ascii : (w : Width) (xs : List ℕ) → length xs ≡ 16
    → Decides (eqb
    (mask_l (map (top (hbits w)) (zip2 (λ a b. cond (leb a b) (2 ^ bits w - 1) 0) (replicate 16 128) xs)) % 2 ^ 64) 0)
    (AllByRecursion (λ b. b < 128) xs)
all_ascii w xs long =
    let high =
    ap (λ ms. mask_l ms % 2 ^ 64) (tops_compared w leb (replicate 16 128) xs ∙ zip2_splat_left leb 128 16 xs long)
    ∙ mask_l-mod (map (λ x. leb 128 x) xs) 64 (omega (arith, long, length-map xs (λ x. leb 128 x))) in
    (λ e. none_high xs (sym high ∙ eqb-true _ _ e), λ h. eq-eqb _ _ (high ∙ high_none xs h))

fits : (xs : List ℕ) → AllByRecursion (λ u. u < 128) xs → Each1 (Fits w8) xs
fits [] h = tt
fits (x ∷ xs) h = (record { fits = omega (arith, h.0) }, fits xs h.1)

-- the lanes of an ASCII block fit bytes
pub block_fits : (xs : List ℕ) → AllByRecursion (λ u. u < 128) xs → Each1 (Fits w8) (chunk 0 16 xs)
block_fits xs h = Each1-chunk (Fits w8) 0 16 xs (fits xs h)

-- a block is written
pub block_written : (old block : List ℕ) (at : ℕ) → length block ≡ 16 → at + 16 ≤ length old
    → take (at + 16) (put_chunk at old (chunk 0 16 block)) ≡ take at old ++ block
block_written old block at long room =
    let whole : chunk 0 16 block ≡ block = take_all 16 block (omega arith) in
    take_more_put_chunk at old (chunk 0 16 block) (at + 16) (omega (arith, long, ap length whole)) room
    ∙ ap (λ l. take at old ++ l) whole
