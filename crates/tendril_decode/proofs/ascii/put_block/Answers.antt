use Rattle.std.proofs.Common.{◌+◌, arith}
use Rattle.std.proofs.lemmas.Simd.{take_more_put_chunk}
use Rattle.tendril_decode.proofs.ascii.put_block.Goals as goal

pub returns-clause-bytes : goal.returns-clause-bytes
returns-clause-bytes c =
    let end = c.args.at + 16 in
    take_more_put_chunk c.args.at c.args.out.now c.args.block end (omega (arith, c.fits-block.0)) c.requires
