use Rattle.std.proofs.Common.{take, arith}
use Rattle.tendril_decode.specs.Iso2022Jp.{iso_2022_jp, resting}
use Rattle.tendril_decode.proofs.CharacterSteps.{character_done}
use Rattle.tendril_decode.proofs.iso_2022_jp.decode_set.Goals as goal

pub put_code_point-at-requires-clause-fits : goal.put_code_point-at-requires-clause-fits
put_code_point-at-requires-clause-fits c =
    let is = c.in-Some.ensures in
    omega (arith, c.loop-read.invariant.room, c.requires.room, is.short, is.within)

pub loop-read-preserved : goal.loop-read-preserved
loop-read-preserved c =
    let put = c.put_code_point-at in
    let is = c.in-Some.ensures in
    record {
      from = omega arith;
      within = omega (arith, is.within);
      room = omega (arith, c.loop-read.invariant.room, is.short, put.ensures.place);
      decodes = λ s d.
          character_done iso_2022_jp (resting c.args.set) s c.args.input.now (take c.loop-read.at c.loop-read.out)
          (take put.result put.new.bytes) c.loop-read.read (c.loop-read.invariant.decodes s d)
          c.in-Some.character.code c.in-Some.character.len is put.ensures.bytes;
    }
