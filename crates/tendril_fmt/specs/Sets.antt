-- Sets of bytes, and the first byte of a text that is in a set.
use Rattle.std.specs.Prelude.{ℕ, ◌≡◌, ◌<◌, ◌≤◌, Bool, true, false, ◌==◌, ◌||◌, ◌⊎◌, List, length, replicate, set}
use Rattle.std.specs.Prelude.{slice_index_or}
use Rattle.memchr.specs.Find.{Nowhere, Passes}
use Rattle.tendril_fmt.specs.declared.cuts.byte_set.Members.{Members}
use Rattle.tendril_fmt.specs.declared.cuts.byte_set.Members.TheVariants.{One, Two, Three, Four, Table}

-- whether the table has the byte
abbrev pub has_byte : List Bool → ℕ → Bool
has_byte table b = slice_index_or table b false

-- the test that a byte is a, b, c or d
abbrev pub is_byte4 : ℕ → ℕ → ℕ → ℕ → ℕ → Bool
is_byte4 a b c d x = x == a || x == b || x == c || x == d

-- a table of 256 Booleans, true only for ASCII bytes
pub record IsTable (table : List Bool) : Type 0 where
  pub len : length table ≡ 256
  pub ascii : (b : ℕ) → has_byte table b ≡ true → b < 128

-- the table of a, b, c and d
abbrev pub table4 : ℕ → ℕ → ℕ → ℕ → List Bool
table4 a b c d = set (set (set (set (replicate 256 false) d true) c true) b true) a true

-- the table of the bytes of a set
abbrev pub member_table : Members → List Bool
member_table (One a) = table4 a a a a
member_table (Two a b) = table4 a b b b
member_table (Three a b c) = table4 a b c c
member_table (Four a b c d) = table4 a b c d
member_table (Table table) = table

-- the test that a byte is in the set
abbrev pub is_member : Members → ℕ → Bool
is_member (One a) = is_byte4 a a a a
is_member (Two a b) = is_byte4 a b b b
is_member (Three a b c) = is_byte4 a b c c
is_member (Four a b c d) = is_byte4 a b c d
is_member (Table table) = has_byte table

-- a byte is one of the bytes of a set
abbrev pub IsMember : Members → ℕ → Type 0
IsMember (One a) x = x ≡ a
IsMember (Two a b) x = (x ≡ a) ⊎ (x ≡ b)
IsMember (Three a b c) x = (x ≡ a) ⊎ ((x ≡ b) ⊎ (x ≡ c))
IsMember (Four a b c d) x = (x ≡ a) ⊎ ((x ≡ b) ⊎ ((x ≡ c) ⊎ (x ≡ d)))
IsMember (Table table) x = has_byte table x ≡ true

-- each byte of a set is ASCII
abbrev pub AreAsciiMembers : Members → Type 0
AreAsciiMembers (One a) = a < 128
AreAsciiMembers (Two a b) = (a < 128) × (b < 128)
AreAsciiMembers (Three a b c) = (a < 128) × (b < 128) × (c < 128)
AreAsciiMembers (Four a b c d) = (a < 128) × (b < 128) × (c < 128) × (d < 128)
AreAsciiMembers (Table table) = IsTable table

-- none of the first n bytes of a text is in the set, and the next one is, if there is one
pub record EndsBefore (set : ℕ → Bool) (text : List ℕ) (n : ℕ) : Type 0 where
  pub within : n ≤ length text
  pub others : Nowhere (Passes set text) 0 n
  pub next : n < length text → Passes set text n

-- a text is empty, or begins with a byte of the set
abbrev pub BeginsWithOne : (ℕ → Bool) → List ℕ → Type 0
BeginsWithOne set text = EndsBefore set text 0
