use Rattle.std.proofs.Common.{◌≡◌, ◌∙◌, None, sym}
use Rattle.tendril_fmt.proofs.UnitSplits.{units_left-none}
use Rattle.tendril_fmt.proofs.fmt.units.Wtf8UnitsIterator.next.Goals as goal

pub returns-in_err-code-clause-steps : goal.returns-in_err-code-clause-steps
returns-in_err-code-clause-steps c =
    let none : c.self.inside.trail ≡ None = sym c.take.ensures.value ∙ c.in_default.is in
    rw c.from_residual.ensures (
      sym c.self.view_is ∙ units_left-none c.self.inside.trail c.self.inside.rest.now none c.in_err-code.ensures,
      units_left-none c.take.new.self c.self.inside.rest.now c.take.ensures.after c.in_err-code.ensures,
    )
