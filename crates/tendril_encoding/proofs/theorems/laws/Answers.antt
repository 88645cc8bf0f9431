use Rattle.tendril_encoding.proofs.MarkLaws.{marks_decide}
use Rattle.tendril_encoding.proofs.OutputLaws.{decodes_to_scalars, is_threefold, keeps_ascii, units_spell_text}
use Rattle.tendril_encoding.specs.StateLaws.{is_decoding_from}
use Rattle.tendril_encoding.specs.States.{decoding_from}
use Rattle.tendril_stream.proofs.Stands.{ends_at, stands_at_nothing, stands_on}
use Rattle.tendril_encoding.proofs.theorems.laws.Goals as goal

pub returns-clause-composes : goal.returns-clause-composes
returns-clause-composes g c = λ start h.
    let d = decoding_from start in
    let is = is_decoding_from start h in
    let takes = g.S.TendrilSink.takes in
    let after = g.S.Tracks.after in
    let goes = g.met.S.Tracks.goes_on in
    record {
      begins = stands_at_nothing d is takes after goes;
      goes_on = stands_on d is takes after goes;
      ends = ends_at d is takes after goes g.S.TendrilSink.finishes;
    }

pub returns-clause-marks : goal.returns-clause-marks
returns-clause-marks g c = marks_decide

pub returns-clause-ascii : goal.returns-clause-ascii
returns-clause-ascii g c = keeps_ascii

pub returns-clause-scalars : goal.returns-clause-scalars
returns-clause-scalars g c = decodes_to_scalars

pub returns-clause-units : goal.returns-clause-units
returns-clause-units g c = units_spell_text

pub returns-clause-short : goal.returns-clause-short
returns-clause-short g c = is_threefold
