-- Closures that change bytes in place.
use Rattle.std.specs.Prelude.{◌≡◌}
use Rattle.std.specs.Borrow.{MutBor}
use Rattle.std.specs.Fn.{Mut, Takes}

-- f may be called with a `&mut` to x
abbrev pub TakesAtMut : {F A R : Type 0} → Mut F (MutBor A × Unit {0}) (R × (MutBor A × Unit {0})) → F → A → Type 0
TakesAtMut {F} {A} g f x = (shown : MutBor A) → shown.now ≡ x → Takes g f (shown, tt)
