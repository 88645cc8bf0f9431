-- Decoders as machines over bytes. A byte takes a state to the next one, and tells characters and errors. What a stream
-- of bytes tells doesn't depend on how it is cut, since a machine goes on from the state that it is in.
use Rattle.std.specs.Prelude.{◌≡◌, ℕ, Bool, true, false, List, [], ◌∷◌, ◌++◌, map, codes}
use Rattle.std.specs.Str.{all_scalars, encode_utf8_all}
use Rattle.tendril_lossy.specs.Lossy.{Told, Char, replaced}

-- A decoder: the state at the start, the state after a byte, what a byte tells, and what the end of the stream tells.
pub record Machine (S : Type 0) : Type 0 where
  pub start : S
  pub step : S → ℕ → S
  pub tells : S → ℕ → List Told
  pub ends : S → List Told

-- what a malformed sequence tells, within a stream and at its end: an error and U+FFFD
abbrev pub invalid : List Told
invalid = replaced (codes "invalid sequence")

-- what follows the text that was written
abbrev pub broken_marks : Bool → List Told
broken_marks true = invalid
broken_marks false = []

-- whether nothing is told
abbrev pub tells_nothing : List Told → Bool
tells_nothing [] = true
tells_nothing (t ∷ ts) = false

module _ {S : Type 0} (m : Machine S) where
  -- the state after these bytes
  abbrev pub state_after : S → List ℕ → S
  state_after s [] = s
  state_after s (b ∷ bs) = state_after (m.step s b) bs

  -- what these bytes tell, while the stream may continue
  abbrev pub told_from : S → List ℕ → List Told
  told_from s [] = []
  told_from s (b ∷ bs) = m.tells s b ++ told_from (m.step s b) bs

  -- From the state s, the input tells the characters of the text, then the marks, then what `rest` tells from the
  -- state t; and the state after the input is that after `rest`.
  pub record DecodesTo (s : S) (input text : List ℕ) (marks : List Told) (t : S) (rest : List ℕ) : Type 0 where
    pub characters : List ℕ
    pub scalars : all_scalars characters ≡ true
    pub written : text ≡ encode_utf8_all characters
    pub told : told_from s input ≡ map Char characters ++ (marks ++ told_from t rest)
    pub state : state_after s input ≡ state_after t rest

  -- From the state s, the end tells the characters of the text, and then, if a malformed sequence follows it, that and
  -- what the end tells from the state t.
  pub record EndsTo (s : S) (text : List ℕ) (broken : Bool) (t : S) : Type 0 where
    pub characters : List ℕ
    pub scalars : all_scalars characters ≡ true
    pub written : text ≡ encode_utf8_all characters
    pub told : m.ends s ≡ map Char characters ++ (broken_marks broken ++ m.ends t)
    pub stops : broken ≡ false → m.ends t ≡ []
