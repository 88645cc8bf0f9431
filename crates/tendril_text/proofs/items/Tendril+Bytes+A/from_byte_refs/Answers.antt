use Rattle.tendril_text.proofs.Taken.{makes_byte_refs}
use Rattle.tendril_text.proofs.items.Tendril+Bytes+A.from_byte_refs.Goals as goal

pub returns : goal.returns
returns g c = makes_byte_refs c.from_items.ensures
