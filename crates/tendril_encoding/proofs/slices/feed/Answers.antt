use Rattle.std.proofs.Common.{◌+◌, ◌-◌, ◌≤◌, ◌++◌, ◌∙◌, length, take, drop, sym, ap, arith, append_assoc}
use Rattle.std.proofs.lemmas.List.{length-take}
use Rattle.std.proofs.lemmas.Result.{err_from_is_err_and}
use Rattle.tendril_decode.specs.Machines.{broken_marks, told_from}
use Rattle.tendril_encoding.specs.Sends.{IsShortOrNew, NoMemory, text_told}
use Rattle.tendril_encoding.proofs.New.{no_memory_grows}
use Rattle.tendril_encoding.proofs.Parts.{slice_within, step_told, step_state}
use Rattle.tendril_text.proofs.Feeds.{Feeds-append, Stops-after, Stops-more}
use Rattle.tendril_encoding.proofs.slices.feed.Goals as goal

pub loop-at-preserved : goal.loop-at-preserved
loop-at-preserved g c =
    let m = g.M.Decode.machine in
    let input = c.args.input.now in
    let at = c.loop-at.at in
    let end = c.loop-at.at + c.min.result in
    let read = c.decode-part.result.read in
    let text = take c.decode-part.result.written c.decode-part.new.out in
    let marks = broken_marks c.decode-part.result.broken in
    let next = c.decode-part.new.self in
    let done = c.loop-at.invariant.done in
    let sent = text_told c.from_utf8_unchecked-text.result.now ++ marks in
    let le : at ≤ end = omega arith in
    let within : end ≤ length input = omega arith in
    let tells = step_told m c.loop-at.state next input text at end read marks le c.decode-part.ensures.read
    c.decode-part.ensures.decodes
    ∙ ap (λ t. (text_told t ++ marks) ++ told_from m next (drop (at + read) input))
    (sym c.from_utf8_unchecked-text.ensures) in
    record {
      fits = c.decode-part.ensures.fits;
      within = slice_within input at end read le within c.decode-part.ensures.read;
      done = (
        done.0 ++ sent,
        Feeds-append g.S.TendrilSink.takes IsShortOrNew c.args.sink.now c.loop-at.sink c.send_part.new.sink done.0
            sent done.1
            c.in_ok-send_part.ensures.ok,
        done.2 ∙ ap (λ l. done.0 ++ l) tells ∙ sym (append_assoc done.0 sent
            (told_from m next (drop (at + read) input))),
      );
      state = c.loop-at.invariant.state
          ∙ step_state m c.loop-at.state next input text at end read marks le c.decode-part.ensures.read
          c.decode-part.ensures.decodes;
    }

pub returns-in_err-send_part-clause-err : goal.returns-in_err-send_part-clause-err
returns-in_err-send_part-clause-err g c =
    let m = g.M.Decode.machine in
    let takes = g.S.TendrilSink.takes in
    let refuses = g.S.TendrilSink.refuses in
    let input = c.args.input.now in
    let at = c.loop-at.at in
    let end = c.loop-at.at + c.min.result in
    let read = c.decode-part.result.read in
    let text = take c.decode-part.result.written c.decode-part.new.out in
    let marks = broken_marks c.decode-part.result.broken in
    let next = c.decode-part.new.self in
    let done = c.loop-at.invariant.done in
    let sent = text_told c.from_utf8_unchecked-text.result.now ++ marks in
    let le : at ≤ end = omega arith in
    let tells = step_told m c.loop-at.state next input text at end read marks le c.decode-part.ensures.read
    c.decode-part.ensures.decodes
    ∙ ap (λ t. (text_told t ++ marks) ++ told_from m next (drop (at + read) input))
    (sym c.from_utf8_unchecked-text.ensures) in
    let p = err_from_is_err_and c.from_residual.result c.from_residual.ensures.1 in
    rw (p.1, p.2) (Stops-after takes refuses IsShortOrNew NoMemory c.args.sink.now c.loop-at.sink c.send_part.new.sink
    done.0 (told_from m c.loop-at.state (drop at input)) (told_from m c.args.state.now input) _ done.1
    (Stops-more takes refuses IsShortOrNew NoMemory no_memory_grows c.loop-at.sink c.send_part.new.sink
    sent (told_from m next (drop (at + read) input)) (told_from m c.loop-at.state (drop at input)) _
    c.in_err-send_part.ensures.err (sym tells))
    (sym done.2))

pub decode-part-requires-clause-room : goal.decode-part-requires-clause-room
decode-part-requires-clause-room g c =
    let at = c.loop-at.at in
    let rest = drop at c.args.input.now in
    let n = length (take ((at + c.min.result) - at) rest) in
    let few : n ≤ c.min.result = omega (arith, length-take ((at + c.min.result) - at) rest) in
    omega (arith, c.requires.room n (omega arith) (omega arith), c.loop-at.auto.buffer)
