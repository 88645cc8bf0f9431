use Rattle.std.proofs.Common.{◌+◌, take, arith}
use Rattle.tendril_decode.proofs.CharacterSteps.{ascii_done, character_done}
use Rattle.tendril_decode.proofs.characters.run_characters.Goals as goal

pub put_code_point-at-requires-clause-fits : goal.put_code_point-at-requires-clause-fits
put_code_point-at-requires-clause-fits g c =
    let is = c.in-Some.ensures in
    omega (arith, c.loop-read.invariant.room, c.requires.room, is.short, is.within)

pub loop-read-preserved-then-input-read-lt128 : goal.loop-read-preserved-then-input-read-lt128
loop-read-preserved-then-input-read-lt128 g c =
    let copied = c.copy_ascii-count in
    let read = c.loop-read.read in
    record {
      from = omega arith;
      within = omega arith;
      room = omega (arith, c.loop-read.invariant.room);
      decodes = λ s d.
          ascii_done g.S.Characters.machine g.S.Characters.nothing s c.args.input.now
          (take c.loop-read.at c.loop-read.out) (take (c.loop-read.at + copied.result) copied.new.out) read
          (c.loop-read.invariant.decodes s d) g.met.S.Characters.ascii (read + copied.result) (omega arith)
          copied.ensures.ascii copied.ensures.bytes;
    }

pub loop-read-preserved : goal.loop-read-preserved
loop-read-preserved g c =
    let put = c.put_code_point-at in
    let is = c.in-Some.ensures in
    record {
      from = omega arith;
      within = omega (arith, is.within);
      room = omega (arith, c.loop-read.invariant.room, is.short, put.ensures.place);
      decodes = λ s d.
          character_done g.S.Characters.machine g.S.Characters.nothing s c.args.input.now
          (take c.loop-read.at c.loop-read.out) (take put.result put.new.bytes) c.loop-read.read
          (c.loop-read.invariant.decodes s d) c.in-Some.character.code c.in-Some.character.len is put.ensures.bytes;
    }
