use Rattle.std.proofs.Common.{subst}
use Rattle.std.proofs.KnownBytes.{Appends-trans}
use Rattle.std.proofs.lemmas.Result.{err_from_is_err_and, on_err_weaker, on_ok_weaker}
use Rattle.std.specs.Io.KnownBytes.{Appends}
use Rattle.tendril_script.specs.Writing.{AppendsFront}
use Rattle.tendril_script.proofs.EndingLemmas.{front_behind, front_of_first}
use Rattle.tendril_script.proofs.refusals.write_both.Goals as goal

pub returns-clause-ok : goal.returns-clause-ok
returns-clause-ok g c =
    let contents = g.W.Write.contents in
    on_ok_weaker c.write_bytes-2.result (λ more. Appends-trans _ _ _ _ _
    (subst (Appends (contents c.args.out.now) (contents c.write_bytes.new.out)) c.as_bytes.ensures.value
    c.in_ok-write_bytes.ensures.ok)
    (subst (Appends (contents c.write_bytes.new.out) (contents c.write_bytes-2.new.out)) c.as_bytes-2.ensures.value
    more)) c.write_bytes-2.ensures.ok

pub returns-clause-err : goal.returns-clause-err
returns-clause-err g c =
    let contents = g.W.Write.contents in
    on_err_weaker c.write_bytes-2.result (λ more. front_behind _ _ _ _ _
    (subst (Appends (contents c.args.out.now) (contents c.write_bytes.new.out)) c.as_bytes.ensures.value
    c.in_ok-write_bytes.ensures.ok)
    (subst (AppendsFront (contents c.write_bytes.new.out) (contents c.write_bytes-2.new.out))
    c.as_bytes-2.ensures.value more)) c.write_bytes-2.ensures.err

pub returns-in_err-write_bytes-clause-err : goal.returns-in_err-write_bytes-clause-err
returns-in_err-write_bytes-clause-err g c =
    let contents = g.W.Write.contents in
    let p = err_from_is_err_and c.from_residual.result c.from_residual.ensures.1 in
    rw (p.1)
    (front_of_first (contents c.args.out.now) (contents c.write_bytes.new.out) c.args.first.now c.args.second.now
    (subst (AppendsFront (contents c.args.out.now) (contents c.write_bytes.new.out)) c.as_bytes.ensures.value
    c.in_err-write_bytes.ensures.err))
