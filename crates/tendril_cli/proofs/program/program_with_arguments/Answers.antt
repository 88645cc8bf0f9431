use Rattle.std.proofs.Common.{◌⊎◌, subst}
use Rattle.tendril_script.specs.Endings.{RunEnded}
use Rattle.tendril_script.specs.Sessions.{RanFrom}
use Rattle.tendril_cli.specs.Decodings.{DecodesAll, DecodingEnded}
use Rattle.tendril_transcode.specs.Transcodings.{most_reads}
use Rattle.tendril_cli.specs.Endings.{program_name}
use Rattle.tendril_cli.specs.Sessions.{Answers}
use Rattle.tendril_cli.proofs.program.program_with_arguments.Goals as goal

pub returns-clause-ran : goal.returns-clause-ran
returns-clause-ran g c = λ done.
    let input = g.R.Read.remaining c.args.input.now in
    let before = g.W.Write.contents c.args.out.now in
    let after = g.W.Write.contents c.run_program.new.out in
    subst (λ cells. RanFrom Answers cells input before after ⊎ DecodesAll input before after) c.new-lines.ensures
    (c.run_program.ensures.ran done)

pub returns-clause-refused : goal.returns-clause-refused
returns-clause-refused g c = λ failed.
    let input = g.R.Read.remaining c.args.input.now in
    let before = g.W.Write.contents c.args.out.now in
    let after = g.W.Write.contents c.run_program.new.out in
    let told = g.E.Write.contents c.args.err.now in
    let told' = g.E.Write.contents c.run_program.new.err in
    subst (λ cells. RunEnded Answers program_name cells input before after told told'
    ⊎ DecodingEnded most_reads input before after told told') c.new-lines.ensures
    (c.run_program.ensures.refused failed)
