use Rattle.std.proofs.Common.{subst, sym}
use Rattle.tendril_encoding.specs.States.{any}
use Rattle.tendril_transcode.specs.Transcodings.{BeginsStream}
use Rattle.recode_cli.proofs.Starts.{begins}
use Rattle.recode_cli.proofs.recode.recode.Goals as goal

pub recode_from-requires : goal.recode_from-requires
recode_from-requires g c = subst (BeginsStream any) (sym c.new-kept.ensures) (begins c.args.how.encoding c.args.how.bom)

pub returns-clause-recoded : goal.returns-clause-recoded
returns-clause-recoded g c = λ lax. rw (sym c.new-kept.ensures) c.recode_from.ensures.recoded

pub returns-clause-stopped : goal.returns-clause-stopped
returns-clause-stopped g c = λ lax. rw (sym c.new-kept.ensures) c.recode_from.ensures.stopped
