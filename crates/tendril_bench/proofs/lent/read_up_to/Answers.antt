use Rattle.std.proofs.Common.{[], ◌∷◌, ◌++◌, arith, refl, subst, length-append}
use Rattle.std.proofs.lemmas.Fn.{FoldsTo-push}
use Rattle.tendril.specs.Proofs.Fed.{MakesReads-on, fed_more}
use Rattle.tendril.specs.Readings.{ReadsOnce, Hears}
use Rattle.tendril.specs.Reads.{CameToEnd}
use Rattle.tendril_bench.proofs.lent.read_up_to.Goals as goal

pub loop-made-preserved : goal.loop-made-preserved
loop-made-preserved g c =
    let h = g.R.CountedRead.history in
    let m = g.R.CountedRead.remaining in
    let takes = g.S.TendrilSink.takes in
    let once = subst (ReadsOnce h m c.loop-made.reader c.read_once.new.reader c.loop-made.sink c.read_once.new.sink
    takes) c.if-branch.false c.in_ok-read_once.ensures.ok in
    record {
      fed = fed_more h m takes c.args.sink.now c.args.reader.now c.loop-made.made c.loop-made.sink
          c.read_once.new.sink c.loop-made.reader c.read_once.new.reader once.0 c.loop-made.invariant.fed once.1
          once.2 once.3;
      within = omega (arith, c.loop-made-test.true);
    }

pub returns-then-branch-clause-ok : goal.returns-then-branch-clause-ok
returns-then-branch-clause-ok g c =
    let h = g.R.CountedRead.history in
    let m = g.R.CountedRead.remaining in
    let takes = g.S.TendrilSink.takes in
    let f = c.loop-made.invariant.fed in
    let once = subst (ReadsOnce h m c.loop-made.reader c.read_once.new.reader c.loop-made.sink c.read_once.new.sink
    takes) c.if-branch.true c.in_ok-read_once.ensures.ok in (
      f.these ++ CameToEnd ∷ [],
      MakesReads-on h m c.args.reader.now c.loop-made.reader c.read_once.new.reader f.these
          (CameToEnd ∷ []) f.makes once.0,
      FoldsTo-push (Hears takes) c.args.sink.now f.these c.loop-made.sink CameToEnd c.read_once.new.sink f.receives
          once.2,
      (
        record { before = f.these; on = f.on; is = refl },
        omega (arith, length-append f.these (CameToEnd ∷ []), f.count, c.loop-made-test.true),
        once.1,
      ),
    )
