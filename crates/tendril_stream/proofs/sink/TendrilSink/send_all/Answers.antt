use Rattle.std.proofs.lemmas.Fn.{FoldsTo-push}
use Rattle.std.proofs.lemmas.Result.{err_from_is_err_and}
use Rattle.tendril_stream.specs.Sinks.{Piece}
use Rattle.tendril_stream.proofs.sink.TendrilSink.send_all.Goals as goal

pub loop-text-preserved : goal.loop-text-preserved
loop-text-preserved g c =
    FoldsTo-push (λ s x t. g.Self.TendrilSink.takes s (Piece (g.T.StreamText.text x)) t) c.args.self.now
    c.loop-text.yielded c.loop-text.self c.in-Some.text c.process.new.self c.loop-text.invariant
    c.in_ok-process.ensures.ok

pub returns-in_err-process-clause-err : goal.returns-in_err-process-clause-err
returns-in_err-process-clause-err g c =
    let p = err_from_is_err_and c.from_residual.result c.from_residual.ensures.1 in rw (p.1, p.2) (record {
      iterator = c.into_iter-text-iterator.result;
      made = c.into_iter-text-iterator.ensures.into_iter_gives;
      sent = c.loop-text.yielded;
      next = c.in-Some.text;
      last = c.next.new.self;
      yields = (c.loop-text.text-iterator, c.loop-text.yielded_by, c.in-Some.ensures.steps);
      sunk = c.loop-text.self;
      calls = c.loop-text.invariant;
      refused = c.in_err-process.ensures.err;
    })

pub returns-clause-ok : goal.returns-clause-ok
returns-clause-ok g c = record {
  iterator = c.into_iter-text-iterator.result;
  made = c.into_iter-text-iterator.ensures.into_iter_gives;
  sent = c.loop-text.yielded;
  last = c.next.new.self;
  yields = (c.loop-text.text-iterator, c.loop-text.yielded_by, c.in-None.ensures.steps);
  calls = c.loop-text.invariant;
}
