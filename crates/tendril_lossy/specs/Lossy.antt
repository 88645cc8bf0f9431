-- Lossy decoding of a stream: Unicode's practice of one replacement for each maximal subpart, as a relation and as a
-- function.
use Rattle.std.specs.Prelude.{
  ◌≡◌,
  ℕ,
  zero,
  suc,
  ◌<◌,
  ◌≤◌,
  ◌⊎◌,
  ◌&&◌,
  Bool,
  true,
  false,
  List,
  [],
  ◌∷◌,
  ◌++◌,
  length,
  take,
  drop,
  flat_map,
  Option,
  Some,
  None,
  if◌then◌else◌,
  encode_utf8,
  chars,
  codes,
  bytes_eq,
  slice_index,
}
use Rattle.std.specs.Char.{IsScalar, len_utf8}
use Rattle.std.specs.Str.{StartsWithNoChar}
use Rattle.std.specs.Str.Lossy.{utf8_error_len}
use lib.Utf8.{scalar}

-- an item of a stream: a character, a broken sequence of n bytes, or the bytes of a character that the end cuts off
pub data Item : Type 0 where
  Keep : ℕ → Item
  Bad : ℕ → Item
  Cut : List ℕ → Item

-- a proper prefix of some character's bytes; the empty list is one
abbrev pub IsIncomplete : List ℕ → Type 0
IsIncomplete xs = (c : ℕ) × (more : List ℕ) × IsScalar c × (0 < length more) × (xs ++ more ≡ encode_utf8 c)

-- for bytes that begin with no character: n is the length of the longest prefix that could begin one, or 1
pub record IsMaximalSubpart (bs : List ℕ) (n : ℕ) : Type 0 where
  pub some : 0 < n
  pub within : n ≤ length bs
  pub front : (n ≡ 1) ⊎ IsIncomplete (take n bs)
  pub longest : (m : ℕ) → n < m → m ≤ length bs → ¬ (IsIncomplete (take m bs))

-- the items are those of the bytes, in order
abbrev pub IsLossy : List ℕ → List Item → Type 0
IsLossy bs [] = bs ≡ []
IsLossy bs (Keep c ∷ items) = (rest : List ℕ) × IsScalar c × (bs ≡ encode_utf8 c ++ rest) × IsLossy rest items
IsLossy bs (Bad n ∷ items) =
    StartsWithNoChar bs × ¬ (IsIncomplete bs) × IsMaximalSubpart bs n × IsLossy (drop n bs) items
IsLossy bs (Cut xs ∷ items) = (0 < length bs) × (xs ≡ bs) × IsIncomplete bs × (items ≡ [])

-- Lossy decoding as a function, which contracts cite.

-- how many bytes an item has
abbrev pub item_len : Item → ℕ
item_len (Keep c) = len_utf8 c
item_len (Bad n) = n
item_len (Cut xs) = length xs

-- the bytes begin with the character c
abbrev pub begins_with : List ℕ → ℕ → Bool
begins_with bs c = scalar c && bytes_eq (encode_utf8 c) (take (len_utf8 c) bs)

-- the first item of bytes that begin with no character: a broken sequence, or a character that is cut off
abbrev pub broken : Option ℕ → List ℕ → Item
broken (Some k) bs = Bad k
broken None bs = Cut bs

-- the first item of bytes that aren't empty
abbrev pub first_item : List ℕ → Item
first_item bs = let c = slice_index (chars bs) 0 in if begins_with bs c then Keep c else broken (utf8_error_len bs) bs

-- the first k items
unfoldable pub items_within : ℕ → List ℕ → List Item
items_within zero bs = []
items_within (suc k) [] = []
items_within (suc k) (b ∷ bs) = let item = first_item (b ∷ bs) in item ∷ items_within k (drop (item_len item) (b ∷ bs))

-- the items of the bytes; there are at most as many as bytes, since each item has at least one
abbrev pub lossy : List ℕ → List Item
lossy bs = items_within (length bs) bs

-- an output: characters, and marks with the words of an error
pub data Told : Type 0 where
  Char : ℕ → Told
  Mark : List ℕ → Told

-- a mark, and the U+FFFD after it
abbrev pub replaced : List ℕ → List Told
replaced words = Mark words ∷ Char 0xFFFD ∷ []

-- the output of an item, while the stream may continue
abbrev pub closed_of : Item → List Told
closed_of (Keep c) = Char c ∷ []
closed_of (Bad n) = replaced (codes "invalid byte sequence")
closed_of (Cut xs) = []

-- the output of an item, if the stream has ended
abbrev pub due_of : Item → List Told
due_of (Keep c) = Char c ∷ []
due_of (Bad n) = replaced (codes "invalid byte sequence")
due_of (Cut xs) = replaced (codes "incomplete byte sequence at end of stream")

-- the decoded output of a whole stream
abbrev pub due : List ℕ → List Told
due bs = flat_map due_of (lossy bs)

-- the decoded output of a stream that may continue
abbrev pub due_open : List ℕ → List Told
due_open bs = flat_map closed_of (lossy bs)

-- the characters of an output
abbrev pub characters : List Told → List ℕ
characters [] = []
characters (Char c ∷ told) = c ∷ characters told
characters (Mark words ∷ told) = characters told

-- whether an output has an error
abbrev pub has_marks : List Told → Bool
has_marks [] = false
has_marks (Char c ∷ told) = has_marks told
has_marks (Mark words ∷ told) = true

-- the bytes of the item that is cut off, if there is one
abbrev pub cut_bytes : List Item → List ℕ
cut_bytes [] = []
cut_bytes (Keep c ∷ items) = cut_bytes items
cut_bytes (Bad n ∷ items) = cut_bytes items
cut_bytes (Cut xs ∷ items) = xs

-- the bytes of a stream's last character, if it is cut off
abbrev pub kept : List ℕ → List ℕ
kept bs = cut_bytes (lossy bs)
