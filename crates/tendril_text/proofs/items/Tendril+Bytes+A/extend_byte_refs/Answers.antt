use Rattle.tendril_text.proofs.Taken.{extends_byte_refs}
use Rattle.tendril_text.proofs.items.Tendril+Bytes+A.extend_byte_refs.Goals as goal

pub returns : goal.returns
returns g c = extends_byte_refs c.extend_with.ensures
