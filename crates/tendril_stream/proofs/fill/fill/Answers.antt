use Rattle.std.proofs.Common.{◌≡◌, ◌≤◌, ◌+◌, ◌∙◌, length, drop, Ok, Err, IfOk, arith, ap, subst}
use Rattle.tendril_stream.proofs.Filled.{filled_end, filled_failed, filled_idle, filled_more, read_ended, read_failed}
use Rattle.tendril_stream.proofs.Filled.{read_gave, read_interrupted}
use Rattle.tendril_stream.proofs.fill.fill.Goals as goal

pub returns-in-Ok-Ok-eq0-clause-read : goal.returns-in-Ok-Ok-eq0-clause-read
returns-in-Ok-Ok-eq0-clause-read g c =
    let e = c.in-Ok-Ok-eq0.ensures in
    let buffer = drop c.loop-filled.filled c.read_into.new.text.bytes in
    let is : c.in-Ok-Ok-eq0.field-0 ≡ Ok 0 = c.in-Ok-Ok-eq0.field-0-is ∙ ap Ok c.in-Ok-Ok-eq0.field-0-0-test in
    let left = c.if-made-max_reads.false in
    let reads = c.loop-filled.invariant.reads in
    let short = c.in_default.ensures.short in
    let room = c.in_default.ensures.room in
    filled_end g.R.CountedRead.history g.R.CountedRead.remaining c.args.reader.now c.args.text.now.bytes
    (tt {0}) c.args.max_reads c.loop-filled.made c.loop-filled.filled c.loop-filled.text.bytes
    c.read_into.new.text.bytes c.loop-filled.reader c.read_into.new.reader
    c.loop-filled.invariant.filled (e.front ∙ c.in_default.ensures.front)
    (read_ended g.R.CountedRead.history g.R.CountedRead.remaining c.loop-filled.reader c.read_into.new.reader
    c.in-Ok-Ok-eq0.field-0 buffer e.history e.consumes is) (omega (arith, left, reads)) (omega (arith, room, short))

pub overflow_cast-filled-in-Ok-Ok : goal.overflow_cast-filled-in-Ok-Ok
overflow_cast-filled-in-Ok-Ok g c =
    let e = c.in-Ok-Ok.ensures in
    let within = subst (λ f. IfOk f (λ n. c.loop-filled.filled + n ≤ length c.read_into.new.text.bytes))
    c.in-Ok-Ok.field-0-is e.within in
    let len = e.len in
    let short = c.in_default.ensures.short in
    omega (arith, within, len, short)

pub overflow_add-filled : goal.overflow_add-filled
overflow_add-filled g c =
    let e = c.in-Ok-Ok.ensures in
    let within = subst (λ f. IfOk f (λ n. c.loop-filled.filled + n ≤ length c.read_into.new.text.bytes))
    c.in-Ok-Ok.field-0-is e.within in
    let len = e.len in
    let short = c.in_default.ensures.short in
    omega (arith, within, len, short)

pub loop-filled-preserved-in-Ok-Ok : goal.loop-filled-preserved-in-Ok-Ok
loop-filled-preserved-in-Ok-Ok g c =
    let e = c.in-Ok-Ok.ensures in
    let buffer = drop c.loop-filled.filled c.read_into.new.text.bytes in
    let some = c.in-Ok-Ok.count-test.1 in
    let left = c.if-made-max_reads.false in
    let reads = c.loop-filled.invariant.reads in
    record {
      filled = filled_more g.R.CountedRead.history g.R.CountedRead.remaining c.args.reader.now c.args.text.now.bytes
          c.loop-filled.made c.loop-filled.filled c.in-Ok-Ok.count c.loop-filled.text.bytes c.read_into.new.text.bytes
          c.loop-filled.reader c.read_into.new.reader
          c.loop-filled.invariant.filled (e.front ∙ c.in_default.ensures.front)
          (read_gave g.R.CountedRead.history g.R.CountedRead.remaining c.loop-filled.reader c.read_into.new.reader
          c.in-Ok-Ok.field-0 buffer e.history e.consumes c.in-Ok-Ok.count c.in-Ok-Ok.field-0-is
          (omega (arith, some))) (omega (arith, some))
          (subst (λ f. IfOk f (λ n. c.loop-filled.filled + n ≤ length c.read_into.new.text.bytes))
          c.in-Ok-Ok.field-0-is e.within);
      within = subst (λ f. IfOk f (λ n. c.loop-filled.filled + n ≤ length c.read_into.new.text.bytes))
          c.in-Ok-Ok.field-0-is e.within;
      reads = omega (arith, left, reads);
      some = c.in_default.ensures.some.0;
      few = c.in_default.ensures.some.1;
    }

pub loop-filled-preserved : goal.loop-filled-preserved
loop-filled-preserved g c =
    let e = c.in-Ok-Err-Interrupted.ensures in
    let buffer = drop c.loop-filled.filled c.read_into.new.text.bytes in
    let is : c.in-Ok-Err-Interrupted.field-0 ≡ Err c.in-Ok-Err-Interrupted.field-0-0 =
    c.in-Ok-Err-Interrupted.field-0-is in
    let left = c.if-made-max_reads.false in
    let reads = c.loop-filled.invariant.reads in
    let within = c.in_default.ensures.within in
    let len = e.len in
    record {
      filled = filled_idle g.R.CountedRead.history g.R.CountedRead.remaining c.args.reader.now c.args.text.now.bytes
          c.loop-filled.made c.loop-filled.filled c.loop-filled.text.bytes c.read_into.new.text.bytes
          c.loop-filled.reader c.read_into.new.reader
          c.loop-filled.invariant.filled (e.front ∙ c.in_default.ensures.front)
          (read_interrupted g.R.CountedRead.history g.R.CountedRead.remaining c.loop-filled.reader
          c.read_into.new.reader c.in-Ok-Err-Interrupted.field-0 buffer e.history e.consumes
          (is ∙ ap Err c.in-Ok-Err-Interrupted.field-0-0-is));
      within = omega (arith, within, len);
      reads = omega (arith, left, reads);
      some = c.in_default.ensures.some.0;
      few = c.in_default.ensures.some.1;
    }

pub returns-in-Ok-Err-Failed-clause-read : goal.returns-in-Ok-Err-Failed-clause-read
returns-in-Ok-Err-Failed-clause-read g c =
    let e = c.in-Ok-Err-Failed.ensures in
    let buffer = drop c.loop-filled.filled c.read_into.new.text.bytes in
    let is : c.in-Ok-Err-Failed.field-0 ≡ Err c.in-Ok-Err-Failed.field-0-0 = c.in-Ok-Err-Failed.field-0-is in
    let room = c.in_default.ensures.room in
    let short = c.in_default.ensures.short in
    let left = c.if-made-max_reads.false in
    let reads = c.loop-filled.invariant.reads in
    filled_failed g.R.CountedRead.history g.R.CountedRead.remaining c.args.reader.now c.args.text.now.bytes
    (Unit {0}) c.args.max_reads c.loop-filled.made c.loop-filled.filled c.loop-filled.text.bytes
    c.read_into.new.text.bytes c.loop-filled.reader c.read_into.new.reader
    c.loop-filled.invariant.filled (e.front ∙ c.in_default.ensures.front)
    (read_failed g.R.CountedRead.history g.R.CountedRead.remaining c.loop-filled.reader c.read_into.new.reader
    c.in-Ok-Err-Failed.field-0 buffer e.history e.consumes (is ∙ ap Err c.in-Ok-Err-Failed.field-0-0-is))
    (omega (arith, left, reads)) (omega (arith, room, short))
