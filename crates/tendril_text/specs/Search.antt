-- The first byte of a text that is in a set, and what a text is split into there.
use Rattle.std.specs.Prelude.{ℕ, ◌≡◌, ◌<◌, Bool, List, ◌∷◌, ◌++◌, length}
use Rattle.memchr.specs.Find.{Passes}
use Rattle.tendril_errors.specs.declared.refusal.Refusal.{Refusal}
use Rattle.tendril_storage.specs.Partings.{IsParted, BothLong}
use Rattle.tendril_storage.specs.Texts.{Text, PopCost}
use Rattle.tendril_text.specs.declared.search.SetResult.{SetResult}
use Rattle.tendril_text.specs.declared.search.SetResult.TheVariants.{FromSet, NotFromSet}
use Rattle.tendril_fmt.specs.Sets.{EndsBefore}

-- a text was split before its first byte of the set, or at its end; the prefix isn't empty
pub record PartsBefore (set : ℕ → Bool) (old front rest : Text) : Type 0 where
  pub count : ℕ
  pub ends : EndsBefore set old.bytes count
  pub some : 0 < count
  pub parted : IsParted count old front rest

-- more than 8 bytes precede the first byte of the set, and with it more than 8 bytes follow
pub record HasLongPartBefore (set : ℕ → Bool) (text : List ℕ) (r : Refusal) : Type 0 where
  pub count : ℕ
  pub ends : EndsBefore set text count
  pub long : BothLong count (length text) r

-- What is removed next from a text that is split at the characters of a set: one of these, or the text before the first
-- of them.
module _ {F A B : _} (chars : List ℕ → List ℕ) (encoding : ℕ → List ℕ) (set : ℕ → Bool) where
  abbrev pub TakesPart : Text → SetResult F A B → Text → Type 0
  TakesPart old (FromSet c) new =
      Passes set old.bytes 0 × (old.bytes ≡ encoding c ++ new.bytes) × (chars old.bytes ≡ c ∷ chars new.bytes)
      × PopCost old new
  TakesPart old (NotFromSet front) new = PartsBefore set old front new

-- the bytes of what was removed from a text
module _ {F A B : _} (encoding : ℕ → List ℕ) where
  abbrev pub part_bytes : SetResult F A B → List ℕ
  part_bytes (FromSet c) = encoding c
  part_bytes (NotFromSet front) = front.bytes
