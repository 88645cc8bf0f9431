-- The encoding `replacement`: the first byte of a stream tells a malformed sequence, and the others nothing.
use Rattle.std.specs.Prelude.{true, false, [], if◌then◌else◌}
use Rattle.tendril_decode.specs.Machines.{Machine, invalid}
use Rattle.tendril_decode.specs.declared.replacement.Replacement.{Replacement}

abbrev pub replacement : Machine Replacement
replacement = record {
  start = record { seen = false };
  step = λ s b. record { seen = true };
  tells = λ s b. if s.seen then [] else invalid;
  ends = λ s. [];
}
