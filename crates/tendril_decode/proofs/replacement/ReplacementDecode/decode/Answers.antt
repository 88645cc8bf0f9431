use Rattle.std.proofs.Common.{[], length, drop, sym, subst, arith}
use Rattle.std.proofs.lemmas.List.{nil_from_length}
use Rattle.tendril_decode.specs.Machines.{DecodesTo}
use Rattle.tendril_decode.specs.Replacement.{replacement}
use Rattle.tendril_decode.proofs.Machines.{DecodesTo-none}
use Rattle.tendril_decode.proofs.ReplacementSteps.{all_silent, first_told}
use Rattle.tendril_decode.proofs.replacement.ReplacementDecode.decode.Goals as goal
use Rattle.tendril_decode.proofs.replacement.ReplacementDecode.decode.Goals.{then-self-via-then-self}
use Rattle.tendril_decode.proofs.replacement.ReplacementDecode.decode.Goals.{then-self-via-else-self+then-read-eq0}

pub returns-then-self-clause-decodes : goal.returns-then-self-clause-decodes
returns-then-self-clause-decodes c =
    let s = c.args.self.now in
    let input = c.args.input.now in
    elim c.then-self.branch [
      | then-self-via-then-self w ↦ all_silent s input w.if-self.true
      | then-self-via-else-self+then-read-eq0 w ↦
          let none = nil_from_length input w.if-read-eq0.true in
          subst (λ l. DecodesTo replacement s l [] [] s (drop (length l) l)) (sym none)
          (DecodesTo-none replacement s [])
    ]

pub returns-clause-decodes : goal.returns-clause-decodes
returns-clause-decodes c =
    first_told c.args.self.now c.args.input.now c.if-self.false (omega (arith, c.if-read-eq0.false))
