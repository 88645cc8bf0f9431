use Rattle.std.proofs.Common.{◌↔◌, length}
use Rattle.tendril_fmt.specs.Wtf8.{IsWtf8}
use Rattle.tendril_fmt.proofs.Rests.{Rest}
use Rattle.tendril_fmt.proofs.fmt.wtf8.WTF8Format.validate.Given as goal

abbrev pub invariant-loop-rest : goal.invariant-loop-rest
invariant-loop-rest l = IsWtf8 l.bytes ↔ Rest l.after_lead l.rest

abbrev pub decreases-loop-rest : goal.decreases-loop-rest
decreases-loop-rest l = length l.rest
