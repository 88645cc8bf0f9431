use Rattle.std.proofs.Common.{ap}
use Rattle.tendril_lines.specs.declared.command.Reply.TheVariants as reply
use Rattle.rope_run.proofs.RopePopped.{popped_first, popped_rest}
use Rattle.rope_run.specs.RopeCells.{rope}
use Rattle.rope_run.proofs.one_rope.pop_char.Goals as goal

pub returns-in-Some : goal.returns-in-Some
returns-in-Some g c =
    let p = c.pop_front_char-first in
    let first = popped_first c.in-Some.rope p.new.self p.result p.ensures.character p.ensures.none in
    let rest = popped_rest c.in-Some.rope p.new.self p.result p.ensures.character p.ensures.bytes p.ensures.none in
    rw c.in-Some.is (record { done = (tt, (ap reply.Char first, ap rope rest)); valid = c.read.ensures })
