-- Two texts joined by a fixup.
use Rattle.std.specs.Prelude.{ℕ, ◌-◌, List, ◌++◌, length, take, drop}
use Rattle.tendril_fmt.specs.declared.fmt.fixup.Fixup.{Fixup}

-- both sides without the bytes that the fixup drops, and between them those that it inserts
abbrev pub joined_by : Fixup → List ℕ → List ℕ → List ℕ
joined_by f l r = take (length l - f.drop_left) l ++ take f.insert_len f.insert_bytes ++ drop f.drop_right r
