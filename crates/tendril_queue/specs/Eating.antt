-- A pattern at the front of a queue.
use Rattle.std.specs.Prelude.{◌≡◌, ℕ, ◌<◌, ◌≤◌, List, ◌++◌, length, map, take}
use Rattle.std.specs.Char.{to_ascii_lowercase}
use Rattle.tendril_queue.specs.declared.eat.Case.{Case}
use Rattle.tendril_queue.specs.declared.eat.Case.TheVariants.{Matters, AsciiIgnored}
use Rattle.tendril_queue.specs.declared.eat.EatResult.{EatResult}
use Rattle.tendril_queue.specs.declared.eat.EatResult.TheVariants.{Eaten, NotThere, NotKnown}
use Rattle.tendril_queue.specs.Queues.{Queued}
use Rattle.tendril_text.specs.TextLists.{DropsFront}

-- equal but for the case of ASCII letters
abbrev pub AreSameInAnyCase : List ℕ → List ℕ → Type 0
AreSameInAnyCase x y = map to_ascii_lowercase x ≡ map to_ascii_lowercase y

abbrev pub AreSame : Case → List ℕ → List ℕ → Type 0
AreSame Matters x y = x ≡ y
AreSame AsciiIgnored x y = AreSameInAnyCase x y

-- A pattern and bytes that it is compared with. `same` says which bytes are equal.
module _ (same : List ℕ → List ℕ → Type 0) (pattern : List ℕ) where
  -- the bytes begin with the pattern
  pub record BeginsWith (bytes : List ℕ) : Type 0 where
    pub within : length pattern ≤ length bytes
    pub is : same (take (length pattern) bytes) pattern

  -- prefixes of both, of the same length, aren't equal
  pub record Differs (bytes : List ℕ) : Type 0 where
    pub count : ℕ
    pub within : count ≤ length bytes
    pub in_pattern : count ≤ length pattern
    pub other : same (take count bytes) (take count pattern) → ⊥

  -- the bytes end within the pattern
  pub record EndsInPattern (bytes : List ℕ) : Type 0 where
    pub short : length bytes < length pattern
    pub so_far : same bytes (take (length bytes) pattern)

  -- which of these each `EatResult` states
  abbrev pub Meets : List ℕ → EatResult → Type 0
  Meets bytes Eaten = BeginsWith bytes
  Meets bytes NotThere = Differs bytes
  Meets bytes NotKnown = EndsInPattern bytes

  -- the pattern was removed from the front, and no byte was copied
  pub record IsEaten (old new : Queued) : Type 0 where
    pub front : List ℕ
    pub bytes : old.bytes ≡ front ++ new.bytes
    pub len : length front ≡ length pattern
    pub is : same front pattern
    pub texts : DropsFront old.texts new.texts

  -- the result, and the queue after the call: without the pattern, or unchanged
  abbrev pub Eats : Queued → EatResult → Queued → Type 0
  Eats old Eaten new = IsEaten old new
  Eats old NotThere new = Differs old.bytes × (new ≡ old)
  Eats old NotKnown new = EndsInPattern old.bytes × (new ≡ old)
