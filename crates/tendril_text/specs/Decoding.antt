-- The lossy decoding of pieces of a stream.
use Rattle.std.specs.Prelude.{
  ℕ,
  ◌≡◌,
  ◌<◌,
  ◌≤◌,
  ◌+◌,
  ◌⊎◌,
  List,
  [],
  ◌∷◌,
  ◌++◌,
  length,
  take,
  drop,
  map,
  flat_map,
  chars,
  encode_utf8,
  All,
  Option,
  Some,
  None,
  IfSome,
  MatchOption,
  IsUtf8,
}
use Rattle.std.specs.List.{FoldsTo}
use Rattle.tendril_errors.specs.declared.refusal.Refusal.{Refusal}
use Rattle.tendril_errors.specs.declared.refusal.Refusal.TheVariants.{Count}
use Rattle.tendril_lossy.specs.declared.search.Ending.{Ending}
use Rattle.tendril_lossy.specs.declared.search.Ending.TheVariants.{Whole, Broken, Open}
use Rattle.tendril_lossy.specs.Completions.{BreaksAt, CompletesTo}
use Rattle.tendril_lossy.specs.Lossy.{Item, Told, Keep, Bad, Cut, IsIncomplete, lossy, closed_of, characters, due_open}
use Rattle.tendril_lossy.specs.Lossy.{kept}
use Rattle.tendril_storage.specs.Texts.{Text, PartCost, PopCost}

-- more than 8 bytes of text precede the first broken sequence, and with it more than 8 bytes follow
pub record BothShare (b : List ℕ) : Type 0 where
  pub front : List ℕ
  pub broken : ℕ
  pub is : front ≡ take (length front) b
  pub items : lossy b ≡ map Keep (chars front) ++ (Bad broken ∷ lossy (drop (length front + broken) b))
  pub text : 8 < length front
  pub rest : 8 + length front < length b

-- Count is permitted: the text at the start of the bytes b and the bytes after it have more than 8 bytes each
abbrev pub LongTextMay : List ℕ → Refusal → Type 0
LongTextMay b r = (r ≡ Count) × BothShare b

-- Count is permitted by a suffix of the bytes b
abbrev pub LongPieceMay : List ℕ → Refusal → Type 0
LongPieceMay b r = (r ≡ Count) × ((at : ℕ) × BothShare (drop at b))

-- A text of a piece that is passed on. It is UTF-8, and not empty. If it has more than 8 bytes, it is no longer than
-- the piece, and its `copied` is 0 or the piece's; else its `copied` is at most 8.
pub record IsHandedOn (piece t : Text) : Type 0 where
  pub some : 0 < length t.bytes
  pub text : IsUtf8 t.bytes
  pub within : 8 < length t.bytes → length t.bytes ≤ length piece.bytes
  pub part : PartCost piece t

-- what is left of a piece: all of it, or one side of a split
abbrev pub IsRest : Text → Text → Type 0
IsRest piece rest = (rest ≡ piece) ⊎ PartCost piece rest

abbrev pub bytes_of : Option Text → List ℕ
bytes_of None = []
bytes_of (Some t) = t.bytes

-- the length of the broken sequence that ended a text, or 0
abbrev pub broken_len : Ending → ℕ
broken_len Whole = 0
broken_len (Broken k) = k
broken_len Open = 0

-- the items after a text at the start, and the bytes after the broken sequence that ended it
abbrev pub Leaves : Ending → List Item → List ℕ → Type 0
Leaves Whole items rest = (items ≡ []) × (rest ≡ [])
Leaves (Broken k) items rest = (items ≡ Bad k ∷ lossy rest) × (0 < k)
Leaves Open items rest = (items ≡ Cut rest ∷ []) × (0 < length rest) × IsIncomplete rest

-- the longest text at the start is removed, and the broken sequence after it; the text is None if it would be empty
pub record PopsText (old : Text) (text : Option Text) (ending : Ending) (new : Text) : Type 0 where
  pub front : bytes_of text ≡ take (length (bytes_of text)) old.bytes
  pub after : List Item
  pub items : lossy old.bytes ≡ map Keep (chars (bytes_of text)) ++ after
  pub leaves : Leaves ending after new.bytes
  pub within : length (bytes_of text) + broken_len ending ≤ length old.bytes
  pub rest : new.bytes ≡ drop (length (bytes_of text) + broken_len ending) old.bytes
  pub handed : IfSome text (IsHandedOn old)
  pub part : IsRest old new

-- the list of the text, or the empty list
abbrev pub listed : Option Text → List Text
listed None = []
listed (Some t) = t ∷ []

-- Calls of a closure. `step p t tt q` says that the closure p, called with the text t, may become q.
module _ {P : Type 0} (step : P → Text → Unit {0} → P → Type 0) where
  -- it is called with these texts, one after another
  abbrev pub Hands : P → List Text → P → Type 0
  Hands push texts last = FoldsTo (λ p t q. step p t tt q) push texts last

  -- it is called with texts of the piece, which together have the characters of `told`
  pub record HandsOn (push : P) (piece : Text) (told : List Told) (last : P) : Type 0 where
    pub texts : List Text
    pub hands : Hands push texts last
    pub each : All (IsHandedOn piece) texts
    pub says : flat_map (λ t. chars t.bytes) texts ≡ characters told

  -- it is called with texts of the items before a suffix of the piece, and the suffix is left
  pub record HandsOnUpTo (push : P) (piece rest : Text) (last : P) : Type 0 where
    pub at : ℕ
    pub end : rest.bytes ≡ drop at piece.bytes
    pub part : IsRest piece rest
    pub before : List Item
    pub items : lossy piece.bytes ≡ before ++ lossy rest.bytes
    pub keeps : kept piece.bytes ≡ kept rest.bytes
    pub handed : HandsOn push piece (flat_map closed_of before) last

  -- it is called with texts of all of a piece, but for an incomplete character at its end
  pub record DecodesPiece (push : P) (piece : Text) (answer : Option (List ℕ)) (last : P) : Type 0 where
    pub handed : HandsOn push piece (due_open piece.bytes) last
    pub keeps : MatchOption answer (kept piece.bytes ≡ []) (λ k. (k ≡ kept piece.bytes) × (0 < length k))

  -- it is called with one text for the kept bytes k and the input: the text that they begin with, or U+FFFD for their
  -- maximal subpart
  pub record HandsCompleted (push : P) (k : List ℕ) (input rest : Text) (last : P) : Type 0 where
    pub text : Text
    pub hands : step push text tt last
    pub says : CompletesTo k input.bytes text.bytes rest.bytes
        ⊎ ((text.bytes ≡ encode_utf8 0xFFFD) × (b : List ℕ) × BreaksAt k input.bytes b rest.bytes)
    pub short : text.copied ≤ 4
    pub copied : PopCost input rest
