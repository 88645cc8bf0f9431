-- Slices of ASCII are ASCII.
use Rattle.std.proofs.Common.{ℕ, List, ◌++◌, length, take, drop, IsAscii, refl, ap, subst, ◌∙◌, take_at, drop_at}
use Rattle.std.proofs.lemmas.Str.{IsAscii-take, IsAscii-drop}
use Rattle.tendril_fmt.specs.Parts.{IsFrontOf, IsEndOf, IsSliceOf}

-- a prefix
pub IsAscii-front : (part whole : List ℕ) → IsAscii whole → IsFrontOf part whole → IsAscii part
IsAscii-front part whole v f = subst IsAscii (ap (take (length part)) f.1 ∙ take_at part f.0 (length part) refl)
    (IsAscii-take whole (length part) v)

-- a suffix
pub IsAscii-end : (part whole : List ℕ) → IsAscii whole → IsEndOf part whole → IsAscii part
IsAscii-end part whole v f = subst IsAscii (ap (drop (length f.0)) f.1 ∙ drop_at f.0 part (length f.0) refl)
    (IsAscii-drop whole (length f.0) v)

-- a slice
pub IsAscii-slice : (part whole : List ℕ) → IsAscii whole → IsSliceOf part whole → IsAscii part
IsAscii-slice part whole v f = IsAscii-front part (part ++ f.1) (IsAscii-end (part ++ f.1) whole v (f.0, f.2))
    (f.1, refl)
