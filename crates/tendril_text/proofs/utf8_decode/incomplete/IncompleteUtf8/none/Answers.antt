use Rattle.std.proofs.Common.{sym, subst}
use Rattle.tendril_lossy.proofs.Fronts.{IsIncomplete-nil}
use Rattle.tendril_lossy.specs.Lossy.{IsIncomplete}
use Rattle.tendril_text.proofs.utf8_decode.incomplete.IncompleteUtf8.none.Goals as goal

pub invariant_of-result : goal.invariant_of-result
invariant_of-result c = subst IsIncomplete (sym c.new.ensures) IsIncomplete-nil
