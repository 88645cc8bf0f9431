use Rattle.rope_run.proofs.RopeReading.{rope_found}
use Rattle.rope_run.proofs.line.from_values.Goals as goal

pub returns-in-Some : goal.returns-in-Some
returns-in-Some c = rope_found c.args.verb.now c.args.values c.in-Some.command c.in-Some.ensures
