-- A line at the front of a queue.
use Rattle.std.specs.Prelude.{◌≡◌, ℕ, ◌<◌, ◌≤◌, ◌+◌, ◌⊎◌, List, ◌∷◌, ◌++◌, length, get_or, take}
use Rattle.memchr.specs.Find.{is_byte}
use Rattle.tendril_errors.specs.declared.limits.TheConstants.{MAX_LEN}
use Rattle.tendril_errors.specs.declared.refusal.Refusal.{Refusal}
use Rattle.tendril_errors.specs.declared.refusal.Refusal.TheVariants.{TooLong}
use Rattle.tendril_errors.specs.Outcomes.{MemoryMay}
use Rattle.tendril_queue.specs.Queues.{Queued}
use Rattle.tendril_text.specs.Partings.{BothLong}
use Rattle.tendril_fmt.specs.Cuts.{EndsFirstLine, EndsPart, LacksFeed, TakesEnded}
use Rattle.tendril_text.specs.TextLists.{DropsFront, LeavesOfFirst, bytes_of_all}
use Rattle.tendril_text.specs.Texts.{Text, SplitCost}

-- the words of the first line are before its LF, and `rest` is after it
abbrev pub TakesFeed : List ℕ → List ℕ → List ℕ → Type 0
TakesFeed bytes words rest = TakesEnded (EndsPart (is_byte 10)) bytes words rest

-- the line was split off the first text, whose block both may share
pub record SplitsFirst (old : List Text) (line : Text) (new : List Text) : Type 0 where
  pub first : Text
  pub left : Text
  pub leaves : LeavesOfFirst old first left new
  pub parts : SplitCost first line left

-- the line is longer than the first text, and was removed from the texts that it spans
pub record SpansTexts (old : List Text) (line : Text) (new : List Text) : Type 0 where
  pub first : Text
  pub others : List Text
  pub had : old ≡ first ∷ others
  pub long : length first.bytes < length line.bytes
  pub drops : DropsFront old new

-- The first line was removed from a queue: what is before the first LF, and the LF.
pub record PopsLine (old : Queued) (line : Text) (new : Queued) : Type 0 where
  pub words : List ℕ
  pub taken : TakesFeed old.bytes words new.bytes
  pub bytes : old.bytes ≡ line.bytes ++ new.bytes
  pub texts : SplitsFirst old.texts line new.texts ⊎ SpansTexts old.texts line new.texts

-- a line of `count` bytes that spans texts can't be made: it is longer than a text can be, or there is no memory
abbrev pub JoinedLineMay : ℕ → Refusal → Type 0
JoinedLineMay count r = ((r ≡ TooLong) × (MAX_LEN < count)) ⊎ MemoryMay count r

-- The first line isn't removed. Either it lies in the first text, and has more than 8 bytes, as has the remainder of
-- that; or it spans texts.
pub record LineRefused (queue : Queued) (r : Refusal) : Type 0 where
  pub words : List ℕ
  pub rest : List ℕ
  pub next : TakesFeed queue.bytes words rest
  pub first : Text
  pub others : List Text
  pub had : queue.texts ≡ first ∷ others
  pub why : BothLong (length words + 1) (length first.bytes) r
      ⊎ ((length first.bytes ≤ length words) × JoinedLineMay (length words + 1) r)

-- the first text with an LF is at this index, and its first line has `count` bytes
pub record HasFirstFeed (texts : List Text) (index count : ℕ) : Type 0 where
  pub inside : index < length texts
  pub lacks : LacksFeed (bytes_of_all (take index texts))
  pub line : (t : Text) → t ≡ get_or texts index t → EndsFirstLine t.bytes count

-- the bytes of a first text, of the texts after it up to an index, and `count` bytes of the one at that index
abbrev pub IsJoinedLine : Text → List Text → ℕ → ℕ → List ℕ → Type 0
IsJoinedLine first texts index count line =
    (t : Text) → t ≡ get_or texts index t
    → line ≡ first.bytes ++ (bytes_of_all (take index texts) ++ take count t.bytes)
