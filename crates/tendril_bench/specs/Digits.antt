-- The ten digits of ASCII.
use Rattle.std.specs.Prelude.{ℕ, ◌≤◌}

abbrev pub IsDigit : ℕ → Type 0
IsDigit c = (48 ≤ c) × (c ≤ 57)
