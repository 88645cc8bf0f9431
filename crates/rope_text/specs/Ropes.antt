-- A rope: texts in UTF-8, one after another, none of them empty.
use Rattle.std.specs.Prelude.{
  ◌≡◌,
  ℕ,
  ◌+◌,
  ◌%◌,
  ◌^◌,
  ◌<◌,
  ◌≤◌,
  Bool,
  List,
  length,
  take,
  All,
  IsUtf8,
  nat_eq,
  slice_index,
  slice_index_or,
}
use Rattle.std.specs.Cmp.Lexicographic.{pointwise}
use Rattle.tendril_errors.specs.declared.limits.TheConstants.{MAX_LEN}
use Rattle.tendril_text.specs.TextLists.{bytes_of_all, no_text}
use Rattle.tendril_text.specs.Texts.{Text}

-- a rope: its bytes, and the texts that have them
pub record RopeText : Type 0 where
  pub bytes : List ℕ
  pub pieces : List Text

-- a text that a rope may have as a piece
pub record IsPiece (t : Text) : Type 0 where
  pub some : 0 < length t.bytes
  pub short : length t.bytes ≤ MAX_LEN
  pub valid : IsUtf8 t.bytes

-- for each piece, the start plus the offset where it ends, modulo 2 ^ 64
pub record AreEnds (pieces : List Text) (start : ℕ) (ends : List ℕ) : Type 0 where
  pub len : length ends ≡ length pieces
  pub at : (k : ℕ) → k < length pieces
      → slice_index ends k ≡ (start + length (bytes_of_all (take (k + 1) pieces))) % 2 ^ 64

-- the pieces of a rope, where they end, and how many bytes they have in total
pub record IsRope (pieces : List Text) (start : ℕ) (ends : List ℕ) (total : ℕ) : Type 0 where
  pub each : All IsPiece pieces
  pub counts : total ≡ length (bytes_of_all pieces)
  pub fits : total < 2 ^ 64
  pub places : AreEnds pieces start ends

abbrev pub piece_at : List Text → ℕ → Text
piece_at pieces index = slice_index_or pieces index no_text

-- whether two ropes have the same bytes, however they are cut
abbrev pub ropes_have_equal_bytes : RopeText → RopeText → Bool
ropes_have_equal_bytes x y = pointwise nat_eq x.bytes y.bytes
