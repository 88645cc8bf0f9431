-- Two lists, compared element by element.
use Rattle.std.proofs.Common.{◌≡◌, List, [], ◌∷◌, ◌++◌, subst, sym}
use Rattle.std.specs.List.{AllZip}
use Rattle.std.proofs.lemmas.List.{append-nil}

module _ {X Y : Type 0} where
  -- whatever pairs with `rest` completes `done` to a list that pairs with `all`
  abbrev pub Completes : (X → Y → Type 0) → List X → List Y → List X → Type 0
  Completes R all done rest = (more : List Y) → AllZip R rest more → AllZip R all (done ++ more)

  -- if `rest` is empty, `done` pairs with `all`
  pub completed : (R : X → Y → Type 0) (all : List X) (done : List Y) (rest : List X) → Completes R all done rest
      → rest ≡ [] → AllZip R all done
  completed R all done rest h is =
      subst (λ ys. AllZip R all ys) (append-nil done) (h [] (subst (λ xs. AllZip R xs []) (sym is) tt))

module _ {X Y Z : Type 0} where
  -- the composition of two pairings
  pub AllZip-through : (R : X → Y → Type 0) (S : Y → Z → Type 0) (T : X → Z → Type 0)
      → ((x : X) (y : Y) (z : Z) → R x y → S y z → T x z) → (xs : List X) (ys : List Y) (zs : List Z) → AllZip R xs ys
      → AllZip S ys zs → AllZip T xs zs
  AllZip-through R S T step [] [] [] r s = tt
  AllZip-through R S T step (x ∷ xs) (y ∷ ys) (z ∷ zs) r s =
      (step x y z r.0 s.0, AllZip-through R S T step xs ys zs r.1 s.1)
  AllZip-through R S T step [] (y ∷ ys) zs r s = absurd r
  AllZip-through R S T step (x ∷ xs) [] zs r s = absurd r
  AllZip-through R S T step [] [] (z ∷ zs) r s = absurd s
  AllZip-through R S T step (x ∷ xs) (y ∷ ys) [] r s = absurd s
