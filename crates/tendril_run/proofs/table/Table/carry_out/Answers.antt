use Rattle.std.proofs.Common.{[], Ok}
use Rattle.tendril_errors.specs.Outcomes.{LengthMust, BytesMust}
use Rattle.tendril_fmt.specs.Wtf8.{wtf8}
use Rattle.tendril_lines.specs.declared.kind.Kind.TheVariants as kind
use Rattle.tendril_run.proofs.OneChanged.{made_added}
use Rattle.tendril_run.specs.Cells.{cell_of, text, valid_in, cell_at}
use Rattle.tendril_run.specs.OneCell.{made_rule, part_rule, clone_rule}
use Rattle.tendril_run.specs.Rules.{always}
use Rattle.tendril_run.proofs.table.Table.carry_out.Goals as goal

pub returns-in-New-clause-outcome : goal.returns-in-New-clause-outcome
returns-in-New-clause-outcome g c =
    rw c.in-New.is (made_added cell_of (always (text c.in-New.kind [])) c.args.self.now.cells _
    (Ok c.empty.result) _ c.add_made-in-New.ensures.added (tt, c.empty.ensures))

pub returns-in-FromBytes-clause-outcome : goal.returns-in-FromBytes-clause-outcome
returns-in-FromBytes-clause-outcome g c =
    rw c.in-FromBytes.is (made_added cell_of
    (made_rule c.in-FromBytes.kind (BytesMust (valid_in c.in-FromBytes.kind) c.in-FromBytes.bytes)
    c.in-FromBytes.bytes) c.args.self.now.cells _ c.from_bytes.result _ c.add_made-in-FromBytes-2.ensures.added
    c.from_bytes.ensures)

pub returns-in-PushBytes-clause-outcome : goal.returns-in-PushBytes-clause-outcome
returns-in-PushBytes-clause-outcome g c =
    rw c.in-PushBytes.is (c.push_bytes.ensures.outcome (g.C.Classifier.class c.args.classifier.now))

pub returns-in-Slice-clause-outcome : goal.returns-in-Slice-clause-outcome
returns-in-Slice-clause-outcome g c =
    rw c.in-Slice.is (made_added cell_of
    (part_rule c.in-Slice.offset c.in-Slice.count (cell_at c.args.self.now.cells c.in-Slice.slot))
    c.args.self.now.cells _ c.part.result _ c.add_made-in-Slice.ensures.added c.part.ensures)

pub returns-in-Clone-clause-outcome : goal.returns-in-Clone-clause-outcome
returns-in-Clone-clause-outcome g c =
    rw c.in-Clone.is (made_added cell_of (clone_rule (cell_at c.args.self.now.cells c.in-Clone.slot))
    c.args.self.now.cells _ c.copy.result _ c.add_made-in-Clone.ensures.added c.copy.ensures)

pub returns-in-Text-clause-outcome : goal.returns-in-Text-clause-outcome
returns-in-Text-clause-outcome g c =
    rw c.in-Text.is (c.text.ensures.outcome (g.C.Classifier.class c.args.classifier.now))

pub returns-in-PushTendril-clause-outcome : goal.returns-in-PushTendril-clause-outcome
returns-in-PushTendril-clause-outcome g c =
    rw c.in-PushTendril.is (c.join.ensures.outcome (g.C.Classifier.class c.args.classifier.now))

pub returns-in-PopChar-clause-outcome : goal.returns-in-PopChar-clause-outcome
returns-in-PopChar-clause-outcome g c =
    rw c.in-PopChar.is (c.pop_char.ensures.outcome (g.C.Classifier.class c.args.classifier.now))

pub returns-in-PopRun-clause-outcome : goal.returns-in-PopRun-clause-outcome
returns-in-PopRun-clause-outcome g c = rw c.in-PopRun.is (c.pop_run.ensures.outcome)

pub returns-in-Compare-clause-outcome : goal.returns-in-Compare-clause-outcome
returns-in-Compare-clause-outcome g c =
    rw c.in-Compare.is (c.compare.ensures.outcome (g.C.Classifier.class c.args.classifier.now))

pub returns-in-FromUnits-clause-outcome : goal.returns-in-FromUnits-clause-outcome
returns-in-FromUnits-clause-outcome g c =
    rw c.in-FromUnits.is (made_added cell_of (made_rule kind.Wtf8 LengthMust (wtf8 c.in-FromUnits.units))
    c.args.self.now.cells _ c.from_units.result _ c.add_made-in-FromUnits-2.ensures.added c.from_units.ensures)

pub returns-in-Units-clause-outcome : goal.returns-in-Units-clause-outcome
returns-in-Units-clause-outcome g c =
    rw c.in-Units.is (c.units.ensures.outcome (g.C.Classifier.class c.args.classifier.now))
