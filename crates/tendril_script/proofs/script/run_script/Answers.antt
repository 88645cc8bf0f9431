use Rattle.std.proofs.Common.{◌≡◌, map}
use Rattle.std.proofs.KnownBytes.{Appends-kept}
use Rattle.std.proofs.lemmas.Result.{err_from_is_err_and}
use Rattle.tendril_script.specs.Sessions.{lines}
use Rattle.tendril_script.proofs.EndingLemmas.{ends_io, ends_ok, ends_err, whole_front}
use Rattle.tendril_script.proofs.script.run_script.Goals as goal

pub returns-in_err-write_held-clause-refusal : goal.returns-in_err-write_held-clause-refusal
returns-in_err-write_held-clause-refusal g c =
    let contents = g.W.Write.contents in
    let same : map (λ line. line.now) c.as_slice.result.now ≡ lines c.args.script.now =
    rw c.as_slice.ensures.value c.in-Ok.ensures in
    let p = err_from_is_err_and c.from_residual.result c.from_residual.ensures.1 in
    rw (p.1, p.2)
    (ends_io g.L.Lines.answers (g.L.Lines.state c.args.runner.now) (contents c.args.out.now)
    (contents c.run_lines-ran.new.out) (contents c.write_held.new.out)
    c.run_lines-ran.result (map (λ line. line.now) c.as_slice.result.now) (lines c.args.script.now)
    (g.L.Lines.state c.run_lines-ran.new.runner) c.new-held.result.items c.run_lines-ran.new.held.items same
    c.new-held.ensures.items
    _ c.in_err-write_held.ensures.refusal c.run_lines-ran.ensures.ok c.run_lines-ran.ensures.refusal
    c.in_err-write_held.ensures.err)

pub returns-in_err-flush-clause-refusal : goal.returns-in_err-flush-clause-refusal
returns-in_err-flush-clause-refusal g c =
    let contents = g.W.Write.contents in
    let same : map (λ line. line.now) c.as_slice.result.now ≡ lines c.args.script.now =
    rw c.as_slice.ensures.value c.in-Ok.ensures in
    let written = Appends-kept (contents c.run_lines-ran.new.out) (contents c.write_held.new.out)
    (contents c.flush.new.out) c.run_lines-ran.new.held.items c.in_ok-write_held.ensures.ok
    c.in_err-flush.ensures.same in
    let p = err_from_is_err_and c.from_residual-in_err-flush.result c.from_residual-in_err-flush.ensures.1 in
    rw (p.1, p.2)
    (ends_io g.L.Lines.answers (g.L.Lines.state c.args.runner.now) (contents c.args.out.now)
    (contents c.run_lines-ran.new.out) (contents c.flush.new.out)
    c.run_lines-ran.result (map (λ line. line.now) c.as_slice.result.now) (lines c.args.script.now)
    (g.L.Lines.state c.run_lines-ran.new.runner) c.new-held.result.items c.run_lines-ran.new.held.items same
    c.new-held.ensures.items
    _ c.in_err-flush.ensures.refusal c.run_lines-ran.ensures.ok c.run_lines-ran.ensures.refusal
    (whole_front (contents c.run_lines-ran.new.out) (contents c.flush.new.out) c.run_lines-ran.new.held.items
    written))

pub returns-clause-ok : goal.returns-clause-ok
returns-clause-ok g c =
    let contents = g.W.Write.contents in
    let same : map (λ line. line.now) c.as_slice.result.now ≡ lines c.args.script.now =
    rw c.as_slice.ensures.value c.in-Ok.ensures in
    let written = Appends-kept (contents c.run_lines-ran.new.out) (contents c.write_held.new.out)
    (contents c.flush.new.out) c.run_lines-ran.new.held.items c.in_ok-write_held.ensures.ok
    c.in_ok-flush.ensures.same in
    ends_ok g.L.Lines.answers (g.L.Lines.state c.args.runner.now) (contents c.args.out.now)
    (contents c.run_lines-ran.new.out) (contents c.flush.new.out)
    c.run_lines-ran.result (map (λ line. line.now) c.as_slice.result.now) (lines c.args.script.now)
    (g.L.Lines.state c.run_lines-ran.new.runner) c.new-held.result.items c.run_lines-ran.new.held.items same
    c.new-held.ensures.items
    c.run_lines-ran.ensures.ok written

pub returns-clause-refusal : goal.returns-clause-refusal
returns-clause-refusal g c =
    let contents = g.W.Write.contents in
    let same : map (λ line. line.now) c.as_slice.result.now ≡ lines c.args.script.now =
    rw c.as_slice.ensures.value c.in-Ok.ensures in
    let written = Appends-kept (contents c.run_lines-ran.new.out) (contents c.write_held.new.out)
    (contents c.flush.new.out) c.run_lines-ran.new.held.items c.in_ok-write_held.ensures.ok
    c.in_ok-flush.ensures.same in
    ends_err g.L.Lines.answers (g.L.Lines.state c.args.runner.now) (contents c.args.out.now)
    (contents c.run_lines-ran.new.out) (contents c.flush.new.out)
    c.run_lines-ran.result (map (λ line. line.now) c.as_slice.result.now) (lines c.args.script.now)
    (g.L.Lines.state c.run_lines-ran.new.runner) c.new-held.result.items c.run_lines-ran.new.held.items same
    c.new-held.ensures.items
    c.run_lines-ran.ensures.refusal written
