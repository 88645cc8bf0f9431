-- Lists of commands, each carried out on the cells that the one before it leaves.
use Rattle.std.specs.Prelude.{◌≡◌, List, [], ◌∷◌, Result, Ok, Err}
use Rattle.tendril_errors.specs.declared.refusal.Refusal.{Refusal}
use Rattle.tendril_errors.specs.declared.refusal.Refusal.TheVariants.{Memory}

-- Over any cells S, commands C and replies R: `step old command reply new` says that from the cells `old` a command
-- leads to the cells `new`, with this reply.
module _ {S C R : Type 0} (step : S → C → R → S → Type 0) where
  -- a chain of steps, one reply per command
  abbrev pub Chain : S → List C → List R → S → Type 0
  Chain old [] [] new = new ≡ old
  Chain old (command ∷ commands) (reply ∷ replies) new =
      (mid : S) × (step old command reply mid × Chain mid commands replies new)
  Chain old [] (reply ∷ replies) new = ⊥
  Chain old (command ∷ commands) [] new = ⊥

  -- what a run returns: the replies of a chain, or Memory with the cells as before
  abbrev pub Worked : {V : Type 0} → (V → List R) → S → List C → S → Result V Refusal → Type 0
  Worked items_of old commands new (Ok replies) = Chain old commands (items_of replies) new
  Worked items_of old commands new (Err refusal) = (refusal ≡ Memory) × (new ≡ old)
