use Rattle.std.proofs.Common.{◌≡◌, ◌∙◌, [], ◌++◌, ap, subst, sym}
use Rattle.std.proofs.lemmas.Result.{IfOk-weaker}
use Rattle.tendril.specs.Compositions.{StandsAt}
use Rattle.tendril.specs.Decodings.{utf8}
use Rattle.tendril.specs.Events.{sent}
use Rattle.tendril.specs.Sinks.{told}
use Rattle.tendril_bench.proofs.two.decode_two.Goals as goal

pub returns : goal.returns
returns c =
    let l = c.laws.ensures in
    let first = c.args.first in
    let none = c.new-decoder.result in
    let one = c.process.new.self in
    let two = c.process-2.new.self in
    let empty = ap (λ a. told (sent a.events.items)) c.new-decoder.ensures.sink
    ∙ ap (λ l. told (sent l)) c.new.ensures in
    let start = subst (λ k. StandsAt utf8 (λ a t. told (sent a.events.items) ≡ t) none.inner_sink k [])
    (sym c.new-decoder.ensures.kept) (l.begins none.inner_sink empty) in
    let at_first = l.goes_on none.inner_sink one.inner_sink none.kept one.kept [] first start
    c.in_ok-process.ensures.ok.2 in
    let at_second = l.goes_on one.inner_sink two.inner_sink one.kept two.kept first.bytes c.args.second at_first
    c.in_ok-process-2.ensures.ok.2 in
    IfOk-weaker c.finish.result _ _ (λ out ends.
    let last = l.ends two.inner_sink two.kept (first.bytes ++ c.args.second.bytes) out at_second ends.1 in
    ap (λ l. told (sent l)) last.2 ∙ last.1) c.finish.ensures.ok
