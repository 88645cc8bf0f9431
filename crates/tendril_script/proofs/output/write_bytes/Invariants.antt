-- the bytes that are no longer in `rest` were written
use Rattle.std.proofs.Common.{◌≡◌, ℕ, List, ◌++◌}
use Rattle.std.specs.Io.KnownBytes.{Appends}
use Rattle.tendril_script.proofs.output.write_bytes.Given as goal

abbrev pub invariant-loop : goal.invariant-loop
invariant-loop g l = (taken : List ℕ)
    × ((l.fn.bytes ≡ taken ++ l.rest) × Appends (g.W.Write.contents l.fn.out) (g.W.Write.contents l.out) taken)
