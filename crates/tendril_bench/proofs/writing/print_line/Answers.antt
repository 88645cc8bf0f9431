use Rattle.std.proofs.lemmas.Fmt.{contents_after_writes}
use Rattle.std.proofs.lemmas.Result.{on_ok_weaker}
use Rattle.tendril_bench.proofs.writing.print_line.Goals as goal

pub returns : goal.returns
returns g c = on_ok_weaker _ (contents_after_writes _ (λ t. t.bytes) (λ _ _ _ t. t) _ _ _) c.writeln.ensures.writes
