-- What is appended to a block.
use Rattle.std.specs.Prelude.{ℕ, ◌+◌, List, [], ◌++◌, length, replicate}
use Rattle.tendril_block.specs.declared.tail.Tail.{Tail}
use Rattle.tendril_block.specs.declared.tail.Tail.TheVariants.{Parts, Zeros, Room}

-- the bytes that are appended
abbrev pub tail_bytes : Tail → List ℕ
tail_bytes (Parts middle more) = middle.now ++ more.now
tail_bytes (Zeros count) = replicate count 0
tail_bytes (Room count) = []

-- the number of bytes that need capacity
abbrev pub tail_room : Tail → ℕ
tail_room (Parts middle more) = length middle.now + length more.now
tail_room (Zeros count) = count
tail_room (Room count) = count
