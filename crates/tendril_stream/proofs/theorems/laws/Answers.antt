use Rattle.tendril_stream.proofs.Stands.{ends_at, stands_at_nothing, stands_on}
use Rattle.tendril_stream.proofs.theorems.laws.Goals as goal

pub returns : goal.returns
returns g c =
    let decoding = g.K.PieceDecoding.decoding in
    let is = g.met.K.PieceDecoding.is_decoding in
    let takes = g.S.TendrilSink.takes in
    let after = g.S.Tracks.after in
    let goes = g.met.S.Tracks.goes_on in
    record {
      begins = stands_at_nothing decoding is takes after goes;
      goes_on = stands_on decoding is takes after goes;
      ends = ends_at decoding is takes after goes g.S.TendrilSink.finishes;
    }
