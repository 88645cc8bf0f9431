use Rattle.tendril_stream.proofs.LineLaws.{lines_compose}
use Rattle.tendril_stream.proofs.lines.line_laws.Goals as goal

pub returns : goal.returns
returns g c = lines_compose g.S.TendrilSink.takes g.S.Tracks.after g.met.S.Tracks.goes_on
