-- The number of ends of pieces that are at most an offset.
use Rattle.std.proofs.Common.{◌≡◌, ℕ, ◌+◌, ◌-◌, ◌*◌, ◌<◌, ◌≤◌, ◌⊎◌, List, length, take, ap, sym, subst, ◌∙◌, arith, inl}
use Rattle.std.proofs.Common.{inr}
use Rattle.std.proofs.Math.Nat.{mul-le-mul_left}
use Rattle.std.proofs.lemmas.Bool.{cases_lt}
use Rattle.std.proofs.lemmas.Bool.Decides.{leb_tells}
use Rattle.std.proofs.lemmas.List.{take-take, take_all}
use mir.Val.{bool_byte}
use lib.Dec.{leb}
use Rattle.rope_text.proofs.Joined.{length_joined_both}
use Rattle.tendril_text.specs.TextLists.{bytes_of_all}
use Rattle.tendril_text.specs.Texts.{Text}

-- more pieces have no fewer bytes
pub length_joined_upto : (xs : List Text) (i j : ℕ) → i ≤ j
    → length (bytes_of_all (take i xs)) ≤ length (bytes_of_all (take j xs))
length_joined_upto xs i j h =
    let both = length_joined_both (take j xs) i in
    let same = ap (λ l. length (bytes_of_all l)) (take-take i j xs h) in
    omega arith

-- a piece that begins at or before a byte exists
pub begins_before : (xs : List Text) (i at : ℕ) → length (bytes_of_all (take i xs)) ≤ at
    → at < length (bytes_of_all xs) → i < length xs
begins_before xs i at h k =
    elim (cases_lt i (length xs)) [
      | inl lt ↦ lt
      | inr past ↦ absurd
          (let all = ap (λ l. length (bytes_of_all l)) (take_all i xs past) in omega arith)
    ]

told : (e at : ℕ) → ((bool_byte (leb e at) ≡ 1) × (e ≤ at)) ⊎ ((bool_byte (leb e at) ≡ 0) × (at < e))
told e at = elim (leb_tells e at) [ inl h ↦ inl (ap bool_byte h.0, h.1) | inr h ↦ inr (ap bool_byte h.0, h.1) ]

-- of the ascending numbers f 1, f 2 and f 3, n are at most `at`, and so is f 0
pub record HasPassed (f : ℕ → ℕ) (at n : ℕ) : Type 0 where
  pub most : n ≤ 3
  pub start : f n ≤ at
  pub end : n < 3 → at < f (n + 1)

passed_as : (f : ℕ → ℕ) (at n k : ℕ) → n ≡ k → HasPassed f at k → HasPassed f at n
passed_as f at n k e h = subst (λ m. HasPassed f at m) (sym e) h

pub passed_of : (f : ℕ → ℕ) (at a b c : ℕ) → f 0 ≤ at → f 1 ≤ f 2 → f 2 ≤ f 3 → a ≡ f 1 → b ≡ f 2 → c ≡ f 3
    → HasPassed f at (bool_byte (leb a at) + bool_byte (leb b at) + bool_byte (leb c at))
passed_of f at a b c start up up' is is' is'' =
    let n = bool_byte (leb a at) + bool_byte (leb b at) + bool_byte (leb c at) in
    elim (told a at) [
      | inl p ↦ elim (told b at) [
        | inl q ↦ elim (told c at) [
          | inl r ↦ passed_as f at n 3 (omega (arith, p.0, q.0, r.0))
              (record { most = omega arith; start = omega (arith, r.1); end = λ h. absurd (omega arith) })
          | inr r ↦ passed_as f at n 2 (omega (arith, p.0, q.0, r.0))
              (record { most = omega arith; start = omega (arith, q.1); end = λ h. omega (arith, r.1) })
        ]
        | inr q ↦ elim (told c at) [
          | inl r ↦ absurd (omega (arith, q.1, r.1))
          | inr r ↦ passed_as f at n 1 (omega (arith, p.0, q.0, r.0))
              (record { most = omega arith; start = omega (arith, p.1); end = λ h. omega (arith, q.1) })
        ]
      ]
      | inr p ↦ elim (told b at) [
        | inl q ↦ absurd (omega (arith, p.1, q.1))
        | inr q ↦ elim (told c at) [
          | inl r ↦ absurd (omega (arith, q.1, r.1))
          | inr r ↦ passed_as f at n 0 (omega (arith, p.0, q.0, r.0))
              (record { most = omega arith; start = start; end = λ h. omega (arith, p.1) })
        ]
      ]
    ]

-- of three ends, each `step` pieces after the one before, how many are at most an offset
pub passed_in : (xs : List Text) (low step at a b c : ℕ) → 0 < step → length (bytes_of_all (take low xs)) ≤ at
    → a ≡ length (bytes_of_all (take (low + step - 1 + 1) xs))
    → b ≡ length (bytes_of_all (take (low + 2 * step - 1 + 1) xs))
    → c ≡ length (bytes_of_all (take (low + 3 * step - 1 + 1) xs))
    → HasPassed (λ k. length (bytes_of_all (take (low + k * step) xs))) at
    (bool_byte (leb a at) + bool_byte (leb b at) + bool_byte (leb c at))
passed_in xs low step at a b c some start is is' is'' =
    let f : ℕ → ℕ = λ k. length (bytes_of_all (take (low + k * step) xs)) in
    let zeroth : low + 0 * step ≡ low = omega arith in
    let first : low + step - 1 + 1 ≡ low + 1 * step = omega arith in
    let second : low + 2 * step - 1 + 1 ≡ low + 2 * step = omega arith in
    let third : low + 3 * step - 1 + 1 ≡ low + 3 * step = omega arith in
    passed_of f at a b c (rw zeroth start) (length_joined_upto xs (low + 1 * step) (low + 2 * step) (omega arith))
    (length_joined_upto xs (low + 2 * step) (low + 3 * step) (omega arith))
    (is ∙ ap (λ n. length (bytes_of_all (take n xs))) first)
    (is' ∙ ap (λ n. length (bytes_of_all (take n xs))) second)
    (is'' ∙ ap (λ n. length (bytes_of_all (take n xs))) third)

-- there are `count` pieces from `low` on, and the offset is before their end
pub record AreLeft (xs : List Text) (low count at : ℕ) : Type 0 where
  pub there : low + count ≤ length xs
  pub end : at < length (bytes_of_all (take (low + count) xs))

pub AreLeft-all : (xs : List Text) (low at : ℕ) → length (bytes_of_all (take low xs)) ≤ at
    → at < length (bytes_of_all xs) → AreLeft xs low (length xs - low) at
AreLeft-all xs low at start h =
    let lt = begins_before xs low at start h in
    let all = ap (λ l. length (bytes_of_all l)) (take_all (low + (length xs - low)) xs (omega arith)) in
    record { there = omega arith; end = omega arith }

pub AreLeft-more : (xs : List Text) (low count at step n : ℕ) → 4 * step ≤ count → n ≤ 3
    → (n < 3 → at < length (bytes_of_all (take (low + (n + 1) * step) xs))) → AreLeft xs low count at
    → AreLeft xs (low + n * step) (count - 3 * step) at
AreLeft-more xs low count at step n fits most end h =
    let product = mul-le-mul_left step most in
    let t = h.there in
    record {
      there = omega arith;
      end = elim (cases_lt n 3) [
        | inl less ↦
            let here = end less in
            let upto = length_joined_upto xs (low + (n + 1) * step) (low + n * step + (count - 3 * step))
            (omega arith) in
            omega (arith, here, upto)
        | inr all ↦
            let three : n ≡ 3 = omega arith in
            let same : low + n * step + (count - 3 * step) ≡ low + count = rw three (omega arith) in
            rw same h.end
      ];
    }

-- at most three pieces are left
pub AreLeft-few : (xs : List Text) (low count at : ℕ) → count ≤ 3 → AreLeft xs low count at
    → at < length (bytes_of_all (take (low + 3) xs))
AreLeft-few xs low count at few h =
    let upto = length_joined_upto xs (low + count) (low + 3) (omega arith) in
    let e = h.end in
    omega arith
