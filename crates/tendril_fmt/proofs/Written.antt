-- The first bytes of those that were written.
use Rattle.std.proofs.Common.{◌≡◌, ℕ, suc, ◌+◌, ◌≤◌, List, [], ◌∷◌, ◌++◌, length, take}
use Rattle.std.proofs.Common.{sym, ap, ◌∙◌, arith, zero-add, length-append}
use Rattle.std.proofs.lemmas.List.{length-take-le, take-take}

pub take_past : (xs ys : List ℕ) (n : ℕ) → take (length xs + n) (xs ++ ys) ≡ xs ++ take n ys
take_past [] ys n = ap (λ k. take k ys) (zero-add n)
take_past (x ∷ xs) ys n =
    let e : suc (length xs) + n ≡ suc (length xs + n) = omega arith in
    ap (λ k. take k (x ∷ (xs ++ ys))) e ∙ ap (λ l. x ∷ l) (take_past xs ys n)

pub front_written : (new old bytes : List ℕ) (at n end : ℕ) → take end new ≡ take at old ++ bytes → at ≤ length old
    → at + n ≤ end → take (at + n) new ≡ take at old ++ take n bytes
front_written new old bytes at n end e le few =
    let same : at ≡ length (take at old) = sym (length-take-le at old le) in
    sym (take-take (at + n) end new few) ∙ ap (take (at + n)) e
    ∙ ap (λ k. take (k + n) (take at old ++ bytes)) same ∙ take_past (take at old) bytes n

-- the offset after what was written
pub place_written : (new old bytes : List ℕ) (at end : ℕ) → take end new ≡ take at old ++ bytes → at ≤ length old
    → end ≤ length new → end ≡ at + length bytes
place_written new old bytes at end e le fits = omega (
  arith,
  ap length e,
  length-take-le end new fits,
  length-take-le at old le,
  length-append (take at old) bytes,
)
