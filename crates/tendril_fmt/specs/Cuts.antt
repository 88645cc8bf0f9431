-- Where bytes are cut: at bytes of a set, into lines, and white space at their ends.
use Rattle.std.specs.Prelude.{ℕ, ◌≡◌, ◌<◌, ◌≤◌, ◌⊎◌, Bool, true, false, List, [], ◌∷◌, ◌++◌, length, take, drop, map}
use Rattle.std.specs.Prelude.{flat_map, All, IsUtf8, ◌-◌, slice_index}
use Rattle.std.specs.Str.Iter.{LacksByte}
use Rattle.memchr.specs.Find.{Nowhere, Passes, is_byte}
use Rattle.tendril_fmt.specs.Parts.{IsEndOf}
use Rattle.std.specs.Char.{is_ascii_whitespace}

-- no byte of the part is in the set
abbrev pub LacksSet : (ℕ → Bool) → List ℕ → Type 0
LacksSet set part = Nowhere (Passes set part) 0 (length part)

-- a part between bytes of a set, and the byte of the set that ends the part
abbrev pub EndsPart : (ℕ → Bool) → List ℕ → List ℕ → Type 0
EndsPart set part ending = LacksSet set part × ((b : ℕ) × (set b ≡ true) × (ending ≡ b ∷ []))

-- bytes without an LF
abbrev pub LacksFeed : List ℕ → Type 0
LacksFeed bytes = LacksSet (is_byte 10) bytes

-- a whole line: bytes without an LF, and the LF that ends them
abbrev pub IsWholeLine : List ℕ → Type 0
IsWholeLine line = (words ending : List ℕ) × EndsPart (is_byte 10) words ending × (line ≡ words ++ ending)

-- the first line of a text in UTF-8, with its LF, has `count` bytes
pub record EndsFirstLine (text : List ℕ) (count : ℕ) : Type 0 where
  pub words : List ℕ
  pub lacks : LacksFeed words
  pub is : take count text ≡ words ++ 10 ∷ []
  pub within : count ≤ length text
  pub front_valid : IsUtf8 (take count text)
  pub rest_valid : IsUtf8 (drop count text)

-- a line ending after the bytes `line`: a CR and an LF, or an LF by itself
abbrev pub IsLineEnding : List ℕ → List ℕ → Type 0
IsLineEnding line ending = (ending ≡ 13 ∷ 10 ∷ []) ⊎ ((ending ≡ 10 ∷ []) × (IsEndOf (13 ∷ []) line → ⊥))

-- `rest` is the text without the line ending at its end, or the text if it has none
abbrev pub IsWithoutEnding : List ℕ → List ℕ → Type 0
IsWithoutEnding text rest =
    ((ending : List ℕ) × IsLineEnding rest ending × (text ≡ rest ++ ending))
    ⊎ ((IsEndOf (10 ∷ []) text → ⊥) × (rest ≡ text))

-- a line, and the line ending after it
abbrev pub EndsLine : List ℕ → List ℕ → Type 0
EndsLine line ending = LacksByte 10 line × IsLineEnding line ending

-- pieces and their endings are a prefix of a text, and `rest` is the remainder
pub record AreTaken (Ends : List ℕ → List ℕ → Type 0) (pieces : List (List ℕ)) (text rest : List ℕ) : Type 0 where
  pub ended : List (List ℕ × List ℕ)
  pub pieces_are : map (λ p. p.0) ended ≡ pieces
  pub each : All (λ p. Ends p.0 p.1) ended
  pub joined : text ≡ flat_map (λ p. p.0 ++ p.1) ended ++ rest

-- the parts of a text between the bytes of a set: joined, with a byte of the set between each two, they are the text,
-- and no part has one
pub record AreParts (set : ℕ → Bool) (parts : List (List ℕ)) (text : List ℕ) : Type 0 where
  pub others : List (List ℕ)
  pub last : List ℕ
  pub parts_are : parts ≡ others ++ last ∷ []
  pub taken : AreTaken (EndsPart set) others text last
  pub lacks : LacksSet set last

-- what follows the last line ending is a line too, if it isn't empty
abbrev pub line_after : List ℕ → List (List ℕ)
line_after [] = []
line_after (b ∷ bs) = (b ∷ bs) ∷ []

-- the lines of a text: joined with their line endings they are the text, and no line has an LF
pub record AreLines (lines : List (List ℕ)) (text : List ℕ) : Type 0 where
  pub ended : List (List ℕ)
  pub last : List ℕ
  pub lines_are : lines ≡ ended ++ line_after last
  pub taken : AreTaken EndsLine ended text last
  pub lacks : LacksByte 10 last

-- the next piece is removed from a text with its ending
abbrev pub TakesEnded : (List ℕ → List ℕ → Type 0) → List ℕ → List ℕ → List ℕ → Type 0
TakesEnded Ends text piece rest = (ending : List ℕ) × Ends piece ending × (text ≡ piece ++ (ending ++ rest))

-- the next part is removed from a text: up to a byte of the set, or the last one
abbrev pub TakesSplit : (ℕ → Bool) → List ℕ → List ℕ → List ℕ → Bool → Type 0
TakesSplit set text part rest false = TakesEnded (EndsPart set) text part rest
TakesSplit set text part rest true = LacksSet set part × (text ≡ part) × (rest ≡ [])

-- the next line is removed from a text: with its line ending, or what follows the last one
abbrev pub TakesLine : List ℕ → List ℕ → List ℕ → Type 0
TakesLine text line rest =
    TakesEnded EndsLine text line rest ⊎ (LacksByte 10 line × (0 < length line) × (text ≡ line) × (rest ≡ []))

-- parts were removed from a text and `rest` is left, or they are all its parts
abbrev pub SplitsSoFar : (ℕ → Bool) → List (List ℕ) → List ℕ → List ℕ → Bool → Type 0
SplitsSoFar set parts text rest false = AreTaken (EndsPart set) parts text rest
SplitsSoFar set parts text rest true = AreParts set parts text × (rest ≡ [])

-- lines were removed from a text and `rest` is left, or they are all its lines
abbrev pub LinesSoFar : List (List ℕ) → List ℕ → List ℕ → Type 0
LinesSoFar lines text rest = AreTaken EndsLine lines text rest ⊎ (AreLines lines text × (rest ≡ []))

-- all bytes are ASCII white space: tab, line feed, form feed, carriage return or space
abbrev pub IsWhite : List ℕ → Type 0
IsWhite bytes = All (λ b. is_ascii_whitespace b ≡ true) bytes

-- `kept` is b without the ASCII white space at its ends
pub record IsTrimOf (b kept : List ℕ) : Type 0 where
  pub before : List ℕ
  pub after : List ℕ
  pub joined : b ≡ before ++ (kept ++ after)
  pub before_white : IsWhite before
  pub after_white : IsWhite after
  pub begins : 0 < length kept → is_ascii_whitespace (slice_index kept 0) ≡ false
  pub ends : 0 < length kept → is_ascii_whitespace (slice_index kept (length kept - 1)) ≡ false
