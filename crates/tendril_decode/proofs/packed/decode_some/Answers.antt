use Rattle.std.proofs.Common.{◌+◌, ◌<◌, ◌++◌, [], take, drop, sym, ap, subst, ◌∙◌, arith}
use Rattle.std.specs.List.{AllByRecursion}
use Rattle.tendril_decode.specs.Single.{DecodesIn}
use Rattle.tendril_decode.proofs.SingleSteps.{run_done}
use Rattle.tendril_decode.proofs.packed.decode_some.Goals as goal

pub returns-then-is_ascii-clause-decodes : goal.returns-then-is_ascii-clause-decodes
returns-then-is_ascii-clause-decodes c =
    let input = c.args.input.now in
    let read = c.args.from in
    let text = take c.args.start c.args.out.now in
    let written = c.put_block.ensures.bytes ∙ ap (λ l. text ++ l) c.block_at-block.ensures in
    let ascii = subst (AllByRecursion (λ b. b < 0x80)) c.block_at-block.ensures
    (c.is_ascii.ensures.0 c.if-is_ascii.true) in
    λ d. subst (λ l. DecodesIn c.args.encoding input l [] (drop (read + 16) input)) (sym written)
    (run_done c.args.encoding input text read (read + 16) (omega arith) d ascii)
