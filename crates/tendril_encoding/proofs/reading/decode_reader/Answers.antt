use Rattle.std.proofs.Common.{sym}
use Rattle.tendril_encoding.proofs.reading.decode_reader.Goals as goal

pub returns-clause-stopped : goal.returns-clause-stopped
returns-clause-stopped g c = rw (sym c.new_encoding.ensures) c.read_all.ensures.stopped
