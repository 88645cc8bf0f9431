-- The fields of a line, between commas.
use Rattle.std.proofs.Common.{◌≡◌, ℕ, Bool, true, List, map, sym, subst, arith}
use Rattle.std.proofs.lemmas.List.Elements.{All-map, All-push}
use Rattle.std.specs.Prelude.{All}
use Rattle.std.specs.Str.Iter.{LacksByte}
use Rattle.tendril.specs.Cuts.{AreParts, LacksSet}

-- a part without a byte of a set lacks each byte that is in the set
lacks_one : (set : ℕ → Bool) (c : ℕ) → set c ≡ true → (part : List ℕ) → LacksSet set part → LacksByte c part
lacks_one set c has part h k l is = h k (omega arith) l (subst (λ b. set b ≡ true) (sym is) has)

-- no part has the byte that ends it
pub parts_lack : (set : ℕ → Bool) (c : ℕ) (parts : List (List ℕ)) (text : List ℕ) → set c ≡ true
    → AreParts set parts text → All (LacksByte c) parts
parts_lack set c parts text has are =
    let ended = are.taken.ended in
    let all : All (LacksByte c) (map (λ p. p.0) ended) =
    All-map (LacksByte c) (λ p. p.0) ended (λ k d l. let ends = are.taken.each k d l in lacks_one set c has _ ends.0) in
    subst (All (LacksByte c)) (sym are.parts_are)
    (All-push (LacksByte c) are.others are.last (subst (All (LacksByte c)) are.taken.pieces_are all)
    (lacks_one set c has are.last are.lacks))
