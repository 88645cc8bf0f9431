use Rattle.tendril_fmt.proofs.CharIndices.{IsAt-step, YieldsFirst-step, MakesProgress-first}
use Rattle.tendril_fmt.proofs.fmt.char_indices.Utf8CharIndicesIterator.next.Goals as goal

pub invariant_of-self : goal.invariant_of-self
invariant_of-self c = IsAt-step c.self.inside.characters c.next.new.self c.next.result c.self.invariant
    c.next.ensures.steps

pub returns-clause-steps : goal.returns-clause-steps
returns-clause-steps c =
    let first = YieldsFirst-step c.self.inside.characters c.next.new.self c.next.result c.self.invariant
    c.next.ensures.steps in
    rw (← c.self.view_is) first

pub returns-clause-goes : goal.returns-clause-goes
returns-clause-goes c =
    let first = YieldsFirst-step c.self.inside.characters c.next.new.self c.next.result c.self.invariant
    c.next.ensures.steps in
    rw (← c.self.view_is) (MakesProgress-first _ (λ _. tt) _ _ c.next.result first)
