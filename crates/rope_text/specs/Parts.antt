-- Slices and clones of ropes.
use Rattle.std.specs.Prelude.{
  ◌≡◌,
  ℕ,
  ◌<◌,
  ◌≤◌,
  ◌+◌,
  ◌-◌,
  ◌⊎◌,
  List,
  [],
  ◌∷◌,
  ◌++◌,
  length,
  map,
  take,
  drop,
  All,
  IsUtf8,
  Result,
}
use Rattle.tendril_errors.specs.declared.limits.TheConstants.{INLINE_LEN}
use Rattle.tendril_errors.specs.declared.refusal.Refusal.{Refusal}
use Rattle.tendril_errors.specs.declared.refusal.Refusal.TheVariants.{Count}
use Rattle.tendril_errors.specs.Outcomes.{NoneMust, SliceMust, Gives}
use Rattle.rope_text.specs.Growth.{RoomMay}
use Rattle.rope_text.specs.Ropes.{RopeText}
use Rattle.tendril_text.specs.TextLists.{bytes_of_all}
use Rattle.tendril_text.specs.Texts.{Text, ShareCost}

-- more than 8 bytes of one piece are in the slice of `count` bytes from the offset on
pub record HasLongShare (pieces : List Text) (offset count : ℕ) : Type 0 where
  pub before : List Text
  pub piece : Text
  pub after : List Text
  pub parts : pieces ≡ before ++ (piece ∷ after)
  pub from : ℕ
  pub long : ℕ
  pub is_long : INLINE_LEN < long
  pub within : from + long ≤ length piece.bytes
  pub begins : offset ≤ length (bytes_of_all before) + from
  pub ends : length (bytes_of_all before) + from + long ≤ offset + count

-- Count is possible if more than 8 bytes of one piece would be shared, and Memory for the list of pieces
abbrev pub PartMay : List Text → ℕ → ℕ → Refusal → Type 0
PartMay pieces offset count r = ((r ≡ Count) × HasLongShare pieces offset count) ⊎ RoomMay count r

-- a list with these bytes as its new first item, if there are any
abbrev pub with_some : List ℕ → List (List ℕ) → List (List ℕ)
with_some [] others = others
with_some (x ∷ xs) others = (x ∷ xs) ∷ others

-- the bytes that each piece has of the slice of `count` bytes from the offset on, without pieces that have none
abbrev pub shares_of : List Text → ℕ → ℕ → List (List ℕ)
shares_of [] offset count = []
shares_of (p ∷ pieces) offset count =
    with_some (take count (drop offset p.bytes))
    (shares_of pieces (offset - length p.bytes) (count - (length p.bytes - offset)))

-- a rope of the bytes b, cut into pieces as the list says; each piece shares its bytes
pub record IsSharedRope (b : List ℕ) (cut : List (List ℕ)) (rope : RopeText) : Type 0 where
  pub bytes : rope.bytes ≡ b
  pub cut_so : map (λ t. t.bytes) rope.pieces ≡ cut
  pub shares : All ShareCost rope.pieces

-- a rope with the same pieces, each of which shares its bytes
abbrev pub IsCloneOf : RopeText → RopeText → Type 0
IsCloneOf rope made = IsSharedRope rope.bytes (map (λ t. t.bytes) rope.pieces) made

-- the slice of `count` bytes from the offset on is returned, if it is there and UTF-8
abbrev pub SubRope : RopeText → ℕ → ℕ → Result RopeText Refusal → Type 0
SubRope rope offset count result =
    Gives (SliceMust IsUtf8 rope.bytes offset count) (PartMay rope.pieces offset count)
    (IsSharedRope (take count (drop offset rope.bytes)) (shares_of rope.pieces offset count)) result

-- the slice of `count` bytes from an offset in a piece on is returned; it is there and UTF-8
abbrev pub SharesPart : List Text → ℕ → ℕ → ℕ → Result RopeText Refusal → Type 0
SharesPart pieces first from count result =
    Gives NoneMust (PartMay pieces (length (bytes_of_all (take first pieces)) + from) count)
    (IsSharedRope (take count (drop from (bytes_of_all (drop first pieces))))
    (shares_of (drop first pieces) from count)) result
