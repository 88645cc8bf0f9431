use Rattle.std.proofs.Common.{rules, ◌≡◌, ◌++◌, ◌∙◌, true, false, take, sym, ap, append_assoc}
use Rattle.std.proofs.lemmas.Result.{err_from_is_err_and}
use Rattle.tendril_decode.specs.Machines.{broken_marks}
use Rattle.tendril_encoding.specs.Sends.{IsShortOrNew, NoMemory, text_told}
use Rattle.tendril_encoding.proofs.New.{no_memory_grows}
use Rattle.tendril_encoding.proofs.Parts.{end_told, end_last, end_shorter}
use Rattle.tendril_text.proofs.Feeds.{Feeds-append, Feeds-same, Stops-after, Stops-more}
use Rattle.tendril_encoding.proofs.slices.end_slices.Given.{Over}
use Rattle.tendril_encoding.proofs.slices.end_slices.Goals as goal
use Rattle.tendril_encoding.proofs.slices.end_slices.Goals.{After-send_part}

-- what this part of the end tells, and what is left
part_told : (g : Over) (c : After-send_part g) → g.M.Decode.machine.ends c.loop.state
    ≡ (text_told c.from_utf8_unchecked-text.result.now ++ broken_marks c.end-part.result.broken)
    ++ g.M.Decode.machine.ends c.end-part.new.self
part_told g c =
    let marks = broken_marks c.end-part.result.broken in
    let left = g.M.Decode.machine.ends c.end-part.new.self in
    end_told g.M.Decode.machine c.loop.state c.end-part.new.self (take c.end-part.result.written c.end-part.new.out)
    c.end-part.result.broken c.end-part.ensures.ends
    ∙ ap (λ t. (text_told t ++ marks) ++ left) (sym c.from_utf8_unchecked-text.ensures)

pub loop-preserved : goal.loop-preserved
loop-preserved g c =
    let done = c.loop.invariant.done in
    let sent = text_told c.from_utf8_unchecked-text.result.now ++ broken_marks c.end-part.result.broken in
    let left = g.M.Decode.machine.ends c.end-part.new.self in
    record {
      fits = c.end-part.ensures.fits;
      done = (
        done.0 ++ sent,
        Feeds-append g.S.TendrilSink.takes IsShortOrNew c.args.sink.now c.loop.sink c.send_part.new.sink done.0 sent
            done.1 c.in_ok-send_part.ensures.ok,
        done.2 ∙ ap (λ l. done.0 ++ l) (part_told g (goal.at.loop-preserved g c).After-send_part)
            ∙ sym (append_assoc done.0 sent left),
      );
    }

pub loop-smaller : goal.loop-smaller
loop-smaller g c =
    let broken : c.end-part.result.broken ≡ true = search rules in
    end_shorter g.M.Decode.machine c.loop.state c.end-part.new.self (take c.end-part.result.written c.end-part.new.out)
    c.end-part.result.broken c.end-part.ensures.ends broken

pub returns-then-not-part-clause-told : goal.returns-then-not-part-clause-told
returns-then-not-part-clause-told g c =
    let broken : c.end-part.result.broken ≡ false = search rules in
    let done = c.loop.invariant.done in
    let marks = broken_marks c.end-part.result.broken in
    let sent = text_told c.from_utf8_unchecked-text.result.now ++ marks in
    let all = end_last g.M.Decode.machine c.loop.state c.end-part.new.self
    (take c.end-part.result.written c.end-part.new.out) c.end-part.result.broken c.end-part.ensures.ends broken in
    Feeds-same g.S.TendrilSink.takes IsShortOrNew c.args.sink.now c.send_part.new.sink (done.0 ++ sent)
    (g.M.Decode.machine.ends c.args.state.now)
    (sym (done.2
    ∙ ap (λ l. done.0 ++ l) (all ∙ ap (λ t. text_told t ++ marks) (sym c.from_utf8_unchecked-text.ensures))))
    (Feeds-append g.S.TendrilSink.takes IsShortOrNew c.args.sink.now c.loop.sink c.send_part.new.sink done.0 sent done.1
    c.in_ok-send_part.ensures.ok)

pub returns-in_err-send_part-clause-err : goal.returns-in_err-send_part-clause-err
returns-in_err-send_part-clause-err g c =
    let takes = g.S.TendrilSink.takes in
    let refuses = g.S.TendrilSink.refuses in
    let done = c.loop.invariant.done in
    let sent = text_told c.from_utf8_unchecked-text.result.now ++ broken_marks c.end-part.result.broken in
    let ends = g.M.Decode.machine.ends in
    let p = err_from_is_err_and c.from_residual.result c.from_residual.ensures.1 in
    rw (p.1, p.2) (Stops-after takes refuses IsShortOrNew NoMemory c.args.sink.now c.loop.sink c.send_part.new.sink
    done.0 (ends c.loop.state) (ends c.args.state.now) _ done.1
    (Stops-more takes refuses IsShortOrNew NoMemory no_memory_grows c.loop.sink c.send_part.new.sink sent
    (ends c.end-part.new.self) (ends c.loop.state) _ c.in_err-send_part.ensures.err
    (sym (part_told g (goal.at.returns-in_err-send_part-clause-err g c).After-send_part)))
    (sym done.2))
