use Rattle.std.proofs.Common.{[], length, ap, arith, subst, ⊎_elim}
use Rattle.std.proofs.lemmas.Bool.Decides.{nat_tests}
use Rattle.tendril_lossy.proofs.Fronts.{text-not_open}
use Rattle.tendril_lossy.specs.Completions.{Completes}
use Rattle.tendril_lossy.specs.Lossy.{IsIncomplete}
use Rattle.tendril_text.proofs.utf8_decode.incomplete.IncompleteUtf8.new.Goals as goal

pub returns-in-Text : goal.returns-in-Text
returns-in-Text c o =
    let bytes = c.args.bytes.now in
    ⊎_elim
    (λ t. let h = subst (Completes [] bytes) t.1 c.complete.ensures in ⊎_elim
    (λ some. text-not_open _ _ h.longest.text some (subst IsIncomplete h.all o))
    (λ nil. let none = ap length nil in grind (arith, none, nat_tests))
    h.some)
    (λ b. let h = subst (Completes [] bytes) b.1 c.complete.ensures in h.closed o)
    c.in-Text.is
