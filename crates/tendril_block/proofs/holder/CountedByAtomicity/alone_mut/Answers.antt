use Rattle.std.proofs.Common.{◌∙◌, ap, arith, refl}
use Rattle.std.proofs.lemmas.Option.{IfSome_then}
use Rattle.tendril_block.specs.declared.body.Body.{Body}
use Rattle.tendril_block.proofs.holder.CountedByAtomicity.alone_mut.Goals as goal

pub returns : goal.returns
returns g c =
    let same = ap (λ p. p.node.inner) c.settle.ensures.pointer in let took = λ (b : Body). b.took in
    let bytes = λ (b : Body). b.bytes in let at_none = c.alone_mut.follows.holds-at-none ∙ same in (
      (
        refl,
        (λ w. let lent = c.alone_mut.follows.holds w in
            IfSome_then c.alone_mut.result c.alone_mut.ensures.bytes
            (λ b e. (
              ap bytes lent,
              omega (
                arith,
                ap took lent,
                ap took (e ∙ same),
                c.settle.ensures.since,
                c.settle.ensures.before,
              ),
            ))),
        (ap bytes at_none, omega (arith, ap took at_none, c.settle.ensures.since, c.settle.ensures.before)),
      ),
      record {
        lends = tt;
        bytes = IfSome_then c.alone_mut.result c.alone_mut.ensures.bytes
            (λ b e. ap bytes (e ∙ same));
      },
    )
