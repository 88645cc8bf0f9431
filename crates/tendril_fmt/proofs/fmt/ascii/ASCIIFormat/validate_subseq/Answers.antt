use Rattle.std.proofs.Common.{refl}
use Rattle.tendril_fmt.proofs.AsciiParts.{IsAscii-slice}
use Rattle.tendril_fmt.proofs.fmt.ascii.ASCIIFormat.validate_subseq.Goals as goal

pub returns : goal.returns
returns c = λ whole v part. ((λ t. IsAscii-slice c.args._bytes.now whole v part), (λ h. refl))
