-- WTF-8 by code points: no lead surrogate is right before a trail.
use Rattle.std.proofs.Common.{◌≡◌, ℕ, false, ◌&&◌, List, [], ◌∷◌, ◌++◌, slice_index, arith}
use Rattle.std.specs.Prelude.{⊤}
use Rattle.std.specs.List.{AllByRecursion}
use Rattle.std.specs.Char.Utf16.{is_high_surrogate, is_low_surrogate}
use Rattle.std.proofs.lemmas.Bool.Decides.{nat_tests}
use Rattle.tendril_fmt.specs.CodePoints.{IsCodePoint}

-- c is no lead, or cs begins with no trail
abbrev pub IsApart : ℕ → List ℕ → Type 0
IsApart c cs = (is_high_surrogate c && is_low_surrogate (slice_index cs 0)) ≡ false

-- code points of which no lead is right before a trail
abbrev pub AreUnpaired : List ℕ → Type 0
AreUnpaired [] = ⊤
AreUnpaired (c ∷ cs) = IsCodePoint c × IsApart c cs × AreUnpaired cs

-- the empty list begins with no trail
pub IsApart-nil : (u : ℕ) → IsApart u []
IsApart-nil u = grind (arith, nat_tests)

-- the elements of such a list are code points
pub AreUnpaired-points : (cs : List ℕ) → AreUnpaired cs → AllByRecursion IsCodePoint cs
AreUnpaired-points [] h = tt
AreUnpaired-points (c ∷ cs) h = (h.0, AreUnpaired-points cs h.2)

-- prefixes and suffixes of such lists are such lists
pub AreUnpaired-front : (xs ys : List ℕ) → AreUnpaired (xs ++ ys) → AreUnpaired xs
AreUnpaired-front [] ys h = tt
AreUnpaired-front (x ∷ []) ys h = (h.0, IsApart-nil x, tt)
AreUnpaired-front (x ∷ y ∷ xs) ys h = (h.0, h.1, AreUnpaired-front (y ∷ xs) ys h.2)

pub AreUnpaired-end : (xs ys : List ℕ) → AreUnpaired (xs ++ ys) → AreUnpaired ys
AreUnpaired-end [] ys h = h
AreUnpaired-end (x ∷ xs) ys h = AreUnpaired-end xs ys h.2

-- two such lists, one after the other, are such a list, unless a lead meets a trail
pub AreUnpaired-append : (front : List ℕ) (c : ℕ) (ds : List ℕ) → AreUnpaired (front ++ c ∷ []) → AreUnpaired ds
    → IsApart c ds → AreUnpaired (front ++ c ∷ ds)
AreUnpaired-append [] c ds h j a = (h.0, a, j)
AreUnpaired-append (x ∷ []) c ds h j a = (h.0, h.1, AreUnpaired-append [] c ds h.2 j a)
AreUnpaired-append (x ∷ y ∷ front) c ds h j a = (h.0, h.1, AreUnpaired-append (y ∷ front) c ds h.2 j a)
