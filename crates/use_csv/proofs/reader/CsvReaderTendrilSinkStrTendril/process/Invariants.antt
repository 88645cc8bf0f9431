use Rattle.std.proofs.Common.{◌≡◌, length, ◌++◌}
use Rattle.use_csv.specs.Spelled.{spelled_so_far, unmarked}
use Rattle.use_csv.proofs.reader.CsvReaderTendrilSinkStrTendril.process.Given as goal

abbrev pub invariant-parts : goal.invariant-parts
invariant-parts g l =
    unmarked (spelled_so_far (g.K.RecordSink.records l.self.sink) l.self.partial ++ l.rest.bytes)
    ≡ unmarked (spelled_so_far (g.K.RecordSink.records l.fn.self.sink) l.fn.self.partial ++ l.fn.text.bytes)

abbrev pub decreases-parts : goal.decreases-parts
decreases-parts g l = length l.rest.bytes
