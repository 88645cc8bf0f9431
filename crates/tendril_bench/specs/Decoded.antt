-- The characters that decoding appends to a text.
use Rattle.std.specs.Prelude.{ℕ, List, [], ◌∷◌, Result, Ok, Err, chars}

-- the characters of a completed sequence: its text, or U+FFFD
abbrev pub spelled : Result (List ℕ) (List ℕ) → List ℕ
spelled (Ok t) = chars t
spelled (Err b) = 0xFFFD ∷ []
