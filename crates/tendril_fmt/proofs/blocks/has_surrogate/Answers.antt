use Rattle.std.proofs.Common.{◌≡◌, ℕ, ◌/◌, ◌<◌, ◌≤◌, ◌≢◌, Bool, true, false, eqb, not}
use Rattle.std.proofs.Common.{cond, replicate, get_or, refl, sym, ap}
use Rattle.std.proofs.Common.{arith, eq-eqb, eqb-true, ne_eqb, inl, inr}
use Rattle.std.specs.Prelude.{◌⊎◌}
use Rattle.std.specs.Simd.Lanes.{zip2, top}
use Rattle.std.proofs.lemmas.Bool.{cases_lt}
use Rattle.std.proofs.lemmas.Bool.Decides.{nat_tests}
use Rattle.tendril_fmt.specs.Blocks.{first_set}
use Rattle.tendril_fmt.proofs.Lanes.{same, div, lanes_own, lanes_splat, lanes_zip, lanes_divide, before_set, none_set}
use Rattle.tendril_fmt.proofs.blocks.has_surrogate.Goals as goal

not_false : (b : Bool) → not b ≡ false → b ≡ true
not_false true e = refl
not_false false e = absurd (cc)

apart : (h : ℕ) → top 7 (same (h / 8) 27) ≡ false → (h < 0xD8) ⊎ (0xE0 ≤ h)
apart h e = go (eqb (h / 8) 27) refl e
  where
    go : (t : Bool) → eqb (h / 8) 27 ≡ t → top 7 (cond t 255 0) ≡ false → (h < 0xD8) ⊎ (0xE0 ≤ h)
    go true p q = absurd (cc)
    go false p q =
        let y : h / 8 ≢ 27 = grind (arith, nat_tests) in
        elim (cases_lt h 0xD8) [ inl lt ↦ inl lt | inr le ↦ inr (omega arith) ]

outside : (h : ℕ) → (h < 0xD8) ⊎ (0xE0 ≤ h) → top 7 (same (h / 8) 27) ≡ false
outside h s =
    let y : h / 8 ≢ 27 = elim s [ inl lt ↦ λ e. omega arith | inr le ↦ λ e. omega arith ] in
    ap (λ b. top 7 (cond b 255 0)) (ne_eqb (h / 8) 27 y)

pub nonzero_div-surrogates : goal.nonzero_div-surrogates
nonzero_div-surrogates c = lanes_divide 16 8 c.args.high (omega arith)

pub returns : goal.returns
returns c =
    let high = c.args.high in
    let eighth = zip2 div high (replicate 16 8) in
    let p = lanes_zip 16 div high (replicate 16 8) _ _ (lanes_own 16 high c.fits-high.0) (lanes_splat 16 8) in
    let q = lanes_zip 16 same eighth (replicate 16 27) _ _ p (lanes_splat 16 27) in (
      λ e k lt.
          let found = before_set 16 16 _ _ q (omega arith) (sym (ap (first_set 16) (eqb-true _ _ (not_false _ e)))) in
          apart (get_or high k 0) (found.1 k (omega (arith, c.fits-high.0))),
      λ lack.
          ap not (eq-eqb _ _ (none_set 16 _ _ q
          (λ k lt. outside (get_or high k 0) (lack k (omega (arith, c.fits-high.0)))))),
    )
