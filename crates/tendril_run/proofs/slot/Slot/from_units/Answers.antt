use Rattle.std.proofs.lemmas.Result.{err_from_is_err_and}
use Rattle.tendril_run.proofs.slot.Slot.from_units.Goals as goal

pub returns-in_err-from_units : goal.returns-in_err-from_units
returns-in_err-from_units g c =
    let p = err_from_is_err_and c.from_residual.result c.from_residual.ensures.1 in
    rw (p.1, p.2) (rw c.as_slice.ensures at c.in_err-from_units.ensures)
