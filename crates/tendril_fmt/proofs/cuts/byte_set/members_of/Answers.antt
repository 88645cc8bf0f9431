use Rattle.std.proofs.Common.{refl, arith}
use Rattle.tendril_fmt.proofs.Searches.{few, covers}
use Rattle.tendril_fmt.proofs.cuts.byte_set.members_of.Goals as goal

pub returns-in-len1-clause-members : goal.returns-in-len1-clause-members
returns-in-len1-clause-members c =
    let n = c.in-len1.len_below in
    let b = c.args.bytes.now in
    few b 0 0 0 0
    (covers b 0 0 0 (λ l. absurd (omega (arith, l, n))) (λ l. absurd (omega (arith, l, n)))
    (λ l. absurd (omega (arith, l, n))) (omega (arith, n)))
    (omega (arith, n)) (omega (arith, n)) (omega (arith, n)) (omega (arith, n))

pub returns-in-len2-clause-members : goal.returns-in-len2-clause-members
returns-in-len2-clause-members c =
    let n = c.in-len2.len_below in
    let b = c.args.bytes.now in
    few b 0 1 1 1
    (covers b 1 1 1 (λ _. refl) (λ l. absurd (omega (arith, l, n)))
    (λ l. absurd (omega (arith, l, n))) (omega (arith, n)))
    (omega (arith, n)) (omega (arith, n)) (omega (arith, n)) (omega (arith, n))

pub returns-in-len3-clause-members : goal.returns-in-len3-clause-members
returns-in-len3-clause-members c =
    let n = c.in-len3.len_below in
    let b = c.args.bytes.now in
    few b 0 1 2 2
    (covers b 1 2 2 (λ _. refl) (λ _. refl) (λ l. absurd (omega (arith, l, n))) (omega (arith, n)))
    (omega (arith, n)) (omega (arith, n)) (omega (arith, n)) (omega (arith, n))

pub returns-in-len4-clause-members : goal.returns-in-len4-clause-members
returns-in-len4-clause-members c =
    let n = c.in-len4.len_below in
    let b = c.args.bytes.now in
    few b 0 1 2 3
    (covers b 1 2 3 (λ _. refl) (λ _. refl) (λ _. refl) (omega (arith, n)))
    (omega (arith, n)) (omega (arith, n)) (omega (arith, n)) (omega (arith, n))
