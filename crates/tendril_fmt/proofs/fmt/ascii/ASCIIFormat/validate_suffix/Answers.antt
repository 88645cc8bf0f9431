use Rattle.std.proofs.Common.{refl}
use Rattle.tendril_fmt.proofs.AsciiParts.{IsAscii-end}
use Rattle.tendril_fmt.proofs.fmt.ascii.ASCIIFormat.validate_suffix.Goals as goal

pub returns : goal.returns
returns c = λ whole v part. ((λ t. IsAscii-end c.args._bytes.now whole v part), (λ h. refl))
