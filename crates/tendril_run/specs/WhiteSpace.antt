-- The classes of characters that the programs know.
use Rattle.std.specs.Prelude.{ℕ, if◌then◌else◌}
use Rattle.std.specs.Char.{is_whitespace}

-- the class of a character: 0 for white space, else 1
abbrev pub class : ℕ → ℕ
class character = if is_whitespace character then 0 else 1
