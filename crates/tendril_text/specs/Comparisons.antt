-- Texts compared and hashed by their bytes.
use Rattle.std.specs.Prelude.{ℕ, Bool, List, [], ◌∷◌, ◌++◌, length, nat_eq}
use Rattle.std.specs.Cmp.Lexicographic.{pointwise, slice_cmp}
use Rattle.std.specs.Hash as fed
use Rattle.std.specs.declared.cmp.Ordering.{Ordering}
use Rattle.std.specs.Ordering.{nat_cmp}
use Rattle.tendril_storage.specs.Texts.{Text}

-- whether two texts have the same bytes
abbrev pub have_equal_bytes : Text → Text → Bool
have_equal_bytes x y = pointwise nat_eq x.bytes y.bytes

-- the order of the bytes of two texts: that of the first two that differ; where none do, the shorter text is less
abbrev pub bytes_order : Text → Text → Ordering
bytes_order x y = slice_cmp nat_cmp x.bytes y.bytes

-- the writes to a hasher for bytes: their number, and then all of them in one write
abbrev pub hashed_bytes : List ℕ → List (List ℕ)
hashed_bytes bytes = fed.usize (length bytes) ++ (bytes ∷ [])
