use Rattle.std.proofs.Common.{arith, subst}
use Rattle.tendril_stream.proofs.Fed.{fed_more, halts_at_end, halts_once, reads_all}
use Rattle.tendril_stream.specs.Readings.{ReadsOnce}
use Rattle.tendril_stream.proofs.reading.read_from.Goals as goal

pub loop-made-preserved : goal.loop-made-preserved
loop-made-preserved g c =
    let test = c.loop-made-test.true in
    let once = subst (ReadsOnce g.R.CountedRead.history g.R.CountedRead.remaining c.loop-made.reader
    c.read_once.new.reader c.loop-made.sink c.read_once.new.sink g.S.TendrilSink.takes) c.in-Ok-false.field-0-test
    c.in-Ok-false.ensures.ok in
    record {
      fed = fed_more g.R.CountedRead.history g.R.CountedRead.remaining g.S.TendrilSink.takes c.args.sink
          c.args.reader.now
          c.loop-made.made c.loop-made.sink c.read_once.new.sink c.loop-made.reader c.read_once.new.reader once.0
          c.loop-made.invariant.fed once.1 once.2 once.3;
      within = omega (arith, test);
    }

pub returns-in-Ok-clause-ok : goal.returns-in-Ok-clause-ok
returns-in-Ok-clause-ok g c =
    let test = c.loop-made-test.true in
    let once = subst (ReadsOnce g.R.CountedRead.history g.R.CountedRead.remaining c.loop-made.reader
    c.read_once.new.reader c.loop-made.sink c.read_once.new.sink g.S.TendrilSink.takes) c.in-Ok-true.field-0-test
    c.in-Ok-true.ensures.ok in
    reads_all g.R.CountedRead.history g.R.CountedRead.remaining g.S.TendrilSink.takes c.args.sink c.args.reader.now
    g.S.TendrilSink.finishes c.args.max_reads
    c.loop-made.made c.loop-made.sink c.read_once.new.sink c.loop-made.reader c.read_once.new.reader c.in-Ok.out
    c.loop-made.invariant.fed once c.in-Ok.ensures.ok (omega (arith, test))

pub returns-in-Err-finish-clause-stopped : goal.returns-in-Err-finish-clause-stopped
returns-in-Err-finish-clause-stopped g c =
    let test = c.loop-made-test.true in
    let once = subst (ReadsOnce g.R.CountedRead.history g.R.CountedRead.remaining c.loop-made.reader
    c.read_once.new.reader c.loop-made.sink c.read_once.new.sink g.S.TendrilSink.takes) c.in-Ok-true.field-0-test
    c.in-Ok-true.ensures.ok in
    halts_at_end g.R.CountedRead.history g.R.CountedRead.remaining g.S.TendrilSink.takes c.args.sink c.args.reader.now
    g.S.TendrilSink.refuses g.S.TendrilSink.ends c.args.max_reads
    c.loop-made.made c.loop-made.sink c.read_once.new.sink c.loop-made.reader c.read_once.new.reader
    c.in-Err-finish.refusal c.loop-made.invariant.fed once c.in-Err-finish.ensures.err (omega (arith, test))

pub returns-in-Err-clause-stopped : goal.returns-in-Err-clause-stopped
returns-in-Err-clause-stopped g c =
    halts_once g.R.CountedRead.history g.R.CountedRead.remaining g.S.TendrilSink.takes c.args.sink c.args.reader.now
    g.S.TendrilSink.refuses g.S.TendrilSink.ends c.args.max_reads
    c.loop-made.made c.loop-made.sink c.read_once.new.sink c.loop-made.reader c.read_once.new.reader c.in-Err.refusal
    c.loop-made.invariant.fed c.in-Err.ensures.err c.loop-made-test.true
