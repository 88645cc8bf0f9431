-- A line's fields.
use Rattle.std.specs.Prelude.{ℕ, ◌≡◌, ◌⊎◌, List, [], ◌∷◌, ◌++◌}
use Rattle.std.specs.List.{join_with_byte}
use Rattle.std.specs.Str.Iter.{LacksByte}
use Rattle.use_logs.specs.declared.record.Record.{Record}

-- the bytes of the fields, with a space between each two
abbrev pub spaced_fields : Record → List ℕ
spaced_fields r = join_with_byte 32
    (r.time.bytes ∷ r.method.bytes ∷ r.target.bytes ∷ r.status.bytes ∷ r.size.bytes ∷ r.agent.bytes ∷ [])

-- a path is what comes before the first `?` of a target, or all of it
abbrev pub IsPathOf : List ℕ → List ℕ → Type 0
IsPathOf target path = LacksByte 63 path × ((target ≡ path) ⊎ ((query : List ℕ) × (target ≡ path ++ 63 ∷ query)))
