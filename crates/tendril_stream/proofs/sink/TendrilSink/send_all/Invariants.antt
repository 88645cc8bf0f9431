use Rattle.std.specs.List.{FoldsTo}
use Rattle.tendril_stream.specs.Sinks.{Piece}
use Rattle.tendril_stream.proofs.sink.TendrilSink.send_all.Given as goal

abbrev pub invariant-loop-text : goal.invariant-loop-text
invariant-loop-text g l = FoldsTo (λ s x t. g.Self.TendrilSink.takes s (Piece (g.T.StreamText.text x)) t) l.fn.self
    l.yielded l.self
