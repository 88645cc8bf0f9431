use Rattle.std.proofs.Common.{refl, arith}
use Rattle.tendril_decode.proofs.JisSteps.{owed_fit, owed_ends}
use Rattle.tendril_decode.proofs.iso_2022_jp.Iso2022JpDecode.end.Goals as goal

pub put_code_point-requires-clause-fits : goal.put_code_point-requires-clause-fits
put_code_point-requires-clause-fits c =
    omega (arith, (owed_fit c.args.self.now c.in-Owed.code c.requires.fits c.in-Owed.is).1, c.requires.room)

pub returns-in-Owed-clause-ends : goal.returns-in-Owed-clause-ends
returns-in-Owed-clause-ends c =
    owed_ends c.args.self.now _ c.in-Owed.code _
    (owed_fit c.args.self.now c.in-Owed.code c.requires.fits c.in-Owed.is).0 c.in-Owed.is refl
    c.put_code_point.ensures.bytes
