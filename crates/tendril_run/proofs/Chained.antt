use Rattle.std.proofs.Common.{List, [], ◌∷◌, ◌++◌, refl, subst}
use Rattle.tendril_run.specs.Chains.{Chain}

-- a chain with one more step is a chain
pub one_more : {S C R : Type 0} (step : S → C → R → S → Type 0) (old mid new : S) (commands : List C)
    (replies : List R) (command : C) (reply : R) → Chain step old commands replies mid → step mid command reply new
    → Chain step old (commands ++ command ∷ []) (replies ++ reply ∷ []) new
one_more step old mid new [] [] command reply h s = (new, (subst (λ cells. step cells command reply new) h s, refl))
one_more step old mid new (c ∷ cs) (r ∷ rs) command reply h s =
    (h.0, (h.1.0, one_more step h.0 mid new cs rs command reply h.1.1 s))
one_more step old mid new [] (r ∷ rs) command reply h s = absurd h
one_more step old mid new (c ∷ cs) [] command reply h s = absurd h
