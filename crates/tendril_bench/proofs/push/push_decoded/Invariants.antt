use Rattle.std.proofs.Common.{◌≡◌, ◌++◌, length}
use Rattle.std.specs.Prelude.{chars}
use Rattle.tendril.specs.Lossy.{characters, due_open, kept}
use Rattle.tendril_bench.proofs.push.push_decoded.Given as goal

abbrev pub invariant-loop-piece : goal.invariant-loop-piece
invariant-loop-piece l =
    (chars l.text.bytes ++ characters (due_open l.piece.bytes)
    ≡ chars l.fn.text.bytes ++ characters (due_open l.fn.piece.bytes))
    × (kept l.piece.bytes ≡ kept l.fn.piece.bytes)

abbrev pub decreases-loop-piece : goal.decreases-loop-piece
decreases-loop-piece l = length l.piece.bytes
