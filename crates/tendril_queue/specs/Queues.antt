-- A queue: texts in UTF-8, one after another, none of them empty.
use Rattle.std.specs.Prelude.{◌≡◌, ℕ, ◌<◌, Bool, List, [], ◌∷◌, ◌++◌, length, chars, encode_utf8, All, IsUtf8}
use Rattle.tendril_errors.specs.declared.refusal.Refusal.{Refusal}
use Rattle.tendril_text.specs.declared.search.SetResult.{SetResult}
use Rattle.tendril_text.specs.Search.{TakesPart, HasLongPartBefore}
use Rattle.tendril_text.specs.TextLists.{LeavesOfFirst, bytes_of_all, unless_empty}
use Rattle.tendril_text.specs.Texts.{Text}

-- a queue: its bytes, and the texts that have them
pub record Queued : Type 0 where
  pub bytes : List ℕ
  pub texts : List Text

-- a text that a queue may have
pub record IsQueued (t : Text) : Type 0 where
  pub some : 0 < length t.bytes
  pub valid : IsUtf8 t.bytes

abbrev pub AreQueued : List Text → Type 0
AreQueued texts = All IsQueued texts

-- the texts of a queue: the first one, unless it is empty, and those after it
abbrev pub all_texts : Text → List Text → List Text
all_texts first rest = unless_empty first ++ rest

abbrev pub queued_of : Text → List Text → Queued
queued_of first rest = record { bytes = bytes_of_all (all_texts first rest); texts = all_texts first rest }

-- a first text and those after it: none of these is empty, and if the first one is, it is the only one
pub record IsQueue (first : Text) (rest : List Text) : Type 0 where
  pub valid : IsUtf8 first.bytes
  pub each : AreQueued rest
  pub alone : first.bytes ≡ [] → rest ≡ []

-- the next part of the first text, which is cut at the characters of a set, was removed from it
module _ {F A B : _} (set : ℕ → Bool) where
  pub record TakesFirst (old : List Text) (taken : SetResult F A B) (new : List Text) : Type 0 where
    pub first : Text
    pub left : Text
    pub leaves : LeavesOfFirst old first left new
    pub part : TakesPart chars encode_utf8 set first taken left

-- the first text has a prefix of more than 8 bytes before the set's first character or its end, and more than 8 after
pub record HasLongFirst (set : ℕ → Bool) (texts : List Text) (r : Refusal) : Type 0 where
  pub first : Text
  pub rest : List Text
  pub had : texts ≡ first ∷ rest
  pub long : HasLongPartBefore set first.bytes r
