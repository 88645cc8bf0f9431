use Rattle.std.proofs.lemmas.List.{take_all}
use Rattle.std.proofs.lemmas.Result.{err_from_is_err_and}
use Rattle.tendril_script.proofs.HeldBackLemmas.{nothing_printed, next_line, line_refused, write_refused}
use Rattle.tendril_script.proofs.script.run_lines.Goals as goal

pub loop-line-init : goal.loop-line-init
loop-line-init g c = nothing_printed g.L.Lines.answers (g.L.Lines.state c.args.runner.now)
    (g.W.Write.contents c.args.out.now) c.args.held.now.items

pub loop-line-preserved : goal.loop-line-preserved
loop-line-preserved g c =
    let state = g.L.Lines.state in
    let contents = g.W.Write.contents in
    next_line g.L.Lines.answers (state c.args.runner.now) (contents c.args.out.now) c.args.held.now.items
    (λ line. line.now) c.args.lines.now c.loop-line.line-index (state c.loop-line.runner)
    (contents c.loop-line.out) c.loop-line.held.items c.loop-line.invariant
    _ (state c.run_line.new.runner) (contents c.write_chunk.new.out) c.run_line.new.held.items
    c.write_chunk.new.held.items
    c.loop-line-test.true c.in_ok-run_line.ensures.ok c.in_ok-write_chunk.ensures.ok

pub returns-in_err-run_line-clause-refusal : goal.returns-in_err-run_line-clause-refusal
returns-in_err-run_line-clause-refusal g c =
    let state = g.L.Lines.state in
    let contents = g.W.Write.contents in
    let p = err_from_is_err_and c.from_residual.result c.from_residual.ensures.1 in
    rw (p.1, p.2)
    (line_refused g.L.Lines.answers (state c.args.runner.now) (contents c.args.out.now) c.args.held.now.items
    (λ line. line.now) c.args.lines.now c.loop-line.line-index (state c.loop-line.runner)
    (contents c.loop-line.out) c.loop-line.held.items c.loop-line.invariant
    _ (state c.run_line.new.runner) c.run_line.new.held.items _ c.in_err-run_line.ensures.refusal
    c.in_err-run_line.ensures.err
    c.loop-line-test.true c.in_err-run_line.ensures.stopped)

pub returns-in_err-write_chunk-clause-refusal : goal.returns-in_err-write_chunk-clause-refusal
returns-in_err-write_chunk-clause-refusal g c =
    let state = g.L.Lines.state in
    let contents = g.W.Write.contents in
    let p = err_from_is_err_and c.from_residual-in_err-write_chunk.result
    c.from_residual-in_err-write_chunk.ensures.1 in
    rw (p.1, p.2)
    (write_refused g.L.Lines.answers (state c.args.runner.now) (contents c.args.out.now) c.args.held.now.items
    (λ line. line.now) c.args.lines.now c.loop-line.line-index (state c.loop-line.runner)
    (contents c.loop-line.out) c.loop-line.held.items c.loop-line.invariant
    _ (state c.run_line.new.runner) (contents c.write_chunk.new.out) c.run_line.new.held.items
    c.write_chunk.new.held.items _
    c.in_err-write_chunk.ensures.refusal c.in_err-write_chunk.ensures.none_held c.loop-line-test.true
    c.in_ok-run_line.ensures.ok c.in_err-write_chunk.ensures.err)

pub returns-clause-ok : goal.returns-clause-ok
returns-clause-ok g c = rw (take_all c.loop-line.line-index c.args.lines.now c.loop-line-test.false) at
    c.loop-line.invariant
