-- Lists of an even number of bytes.
use Rattle.std.proofs.Common.{◌≡◌, ℕ, ◌%◌, List, [], ◌++◌, length, refl, arith, length-append}
use Rattle.tendril.specs.Fmt.Bytes.{AreBytes}
use Rattle.tendril.specs.Fmt.Proved.Bytes.{AreBytes-nil, AreBytes-append}

-- bytes whose number is even
abbrev pub IsPaired : List ℕ → Type 0
IsPaired bytes = AreBytes bytes × (length bytes % 2 ≡ 0)

pub IsPaired-nil : IsPaired []
IsPaired-nil = (AreBytes-nil, refl)

pub IsPaired-append : (l r : List ℕ) → IsPaired l → IsPaired r → IsPaired (l ++ r)
IsPaired-append l r h k = (AreBytes-append l r h.0 k.0, omega (arith, length-append l r, h.1, k.1))
