use Rattle.std.proofs.Common.{subst}
use Rattle.std.specs.Io.KnownBytes.{Consumes}
use Rattle.tendril_encoding.specs.States.{any}
use Rattle.tendril_stream.specs.Reads.{given}
use Rattle.tendril_transcode.proofs.DecodingEnds.{all_decoded}
use Rattle.recode_cli.proofs.recode.recode_from.Goals as goal

pub returns-in-Ok-clause-recoded : goal.returns-in-Ok-clause-recoded
returns-in-Ok-clause-recoded g c = λ done.
    let input = g.R.Read.remaining c.args.input.now in
    let before = g.W.Write.contents c.args.out.now in
    let after = g.W.Write.contents c.transcode.new.out in
    let left = g.R.Read.remaining c.transcode.new.reader.reader.now in
    let all = c.in-Ok.ensures.ok in
    let gave = subst (λ r. Consumes (g.R.Read.remaining r.now) left (given all.0)) c.new.ensures.reader all.1.1 in
    all_decoded any c.args.kept input left before after (given all.0) gave all.2 all.3.writes
