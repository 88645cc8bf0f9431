use Rattle.tendril_stream.proofs.Filled.{front_bytes}
use Rattle.tendril_stream.proofs.fill.AnyReadExt.read_to_tendril.Goals as goal

pub pop_back-requires-clause-valid : goal.pop_back-requires-clause-valid
pop_back-requires-clause-valid g c = front_bytes _ c.fill-filled.new.text.bytes c.as_byte_slice.ensures.valid
