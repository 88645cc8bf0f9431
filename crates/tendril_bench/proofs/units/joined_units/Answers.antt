use Rattle.std.proofs.Common.{◌≡◌, ◌++◌, sym, ap, ap₂, ◌∙◌, arith}
use Rattle.std.proofs.lemmas.Result.{IfOk-weaker}
use Rattle.tendril.specs.Fmt.Wtf8.{wtf8, units}
use Rattle.tendril.specs.Proofs.UnitSplits.{AreUnits-slice}
use Rattle.tendril_bench.proofs.units.joined_units.Goals as goal

pub returns : goal.returns
returns c =
    let laws = c.laws.ensures in
    let left = c.args.left.now in
    let right = c.args.right.now in
    let text = c.in_ok-text.text.bytes in
    let more = c.in_ok-more.more.bytes in
    let are = AreUnits-slice left (λ k. omega (arith, c.type_inv.left k)) in
    let are_more = AreUnits-slice right (λ k. omega (arith, c.type_inv.right k)) in
    let made : text ≡ wtf8 left = c.in_ok-text.ensures.1.bytes in
    let made_more : more ≡ wtf8 right = c.in_ok-more.ensures.1.bytes in
    let whole = ap units c.in_ok-push_tendril.ensures.outcome.1
    ∙ laws.join_appends_units text more (left, are, sym made) (right, are_more, sym made_more) in
    let parts = ap₂ (λ a b. a ++ b) (ap units made ∙ laws.units_round_trip left are) (ap units made_more
    ∙ laws.units_round_trip right are_more) in
    IfOk-weaker c.to_units.result _ _ (λ v is. is ∙ whole ∙ parts) c.to_units.ensures.units
