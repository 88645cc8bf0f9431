use Rattle.std.proofs.Common.{subst}
use Rattle.std.proofs.lemmas.Result.{err_from_is_err_and}
use Rattle.tendril_encoding.proofs.Begun.{marked, plain, plain_stops}
use Rattle.tendril_encoding.specs.Starts.{Finds}
use Rattle.tendril_encoding.specs.declared.search.Found.TheVariants.{Marked, Plain}
use Rattle.tendril_encoding.proofs.begin.begin.Goals as goal

pub returns-in-Marked-clause-ok : goal.returns-in-Marked-clause-ok
returns-in-Marked-clause-ok g c =
    let s = c.args.sniffing in
    let found = subst (λ l. Finds s.marks s.seen l (Marked c.in-Marked.mark c.in-Marked.count))
    c.as_byte_slice.ensures.value
    c.in-Marked.ensures in
    marked g.S.TendrilSink.takes g.S.TendrilSink.refuses c.args.sink.now c.args.known.now c.marked.result s
    c.args.piece.now c.pop_front.new.self c.in-Marked.mark c.in-Marked.count found c.marked.ensures
    c.pop_front.ensures.bytes c.pop_front.ensures.copied

pub returns-in_ok-decode_seen-in-Plain-clause-ok : goal.returns-in_ok-decode_seen-in-Plain-clause-ok
returns-in_ok-decode_seen-in-Plain-clause-ok g c =
    let s = c.args.sniffing in
    let found = subst (λ l. Finds s.marks s.seen l Plain) c.as_byte_slice.ensures.value c.in-Plain.ensures in
    plain g.S.TendrilSink.takes g.S.TendrilSink.refuses c.args.sink.now c.decode_seen.new.sink c.args.known.now
    c.decode_seen.new.chosen s c.args.piece.now c.requires.start found c.in_ok-decode_seen-in-Plain.ensures.ok

pub returns-in_err-decode_seen-in-Plain-clause-err : goal.returns-in_err-decode_seen-in-Plain-clause-err
returns-in_err-decode_seen-in-Plain-clause-err g c =
    let s = c.args.sniffing in
    let found = subst (λ l. Finds s.marks s.seen l Plain) c.as_byte_slice.ensures.value c.in-Plain.ensures in
    let p = err_from_is_err_and c.from_residual.result c.from_residual.ensures.1 in
    rw (p.1, p.2) (plain_stops g.S.TendrilSink.takes g.S.TendrilSink.refuses c.args.sink.now c.decode_seen.new.sink
    c.args.known.now s c.args.piece.now _ found c.in_err-decode_seen-in-Plain.ensures.err)
