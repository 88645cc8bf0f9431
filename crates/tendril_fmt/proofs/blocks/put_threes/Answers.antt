use Rattle.std.proofs.Common.{◌≡◌, ◌++◌, take, ap, ◌∙◌, append_assoc}
use Rattle.std.specs.Simd.Lanes.{pick_l}
use Rattle.tendril_fmt.proofs.Words.{starts, middles, ends, threes_are}
use Rattle.tendril_fmt.proofs.blocks.put_threes.Goals as goal

pub returns-clause-bytes : goal.returns-clause-bytes
returns-clause-bytes c =
    let words = c.args.words in
    let text = take c.args.at c.args.bytes.now in
    let start = pick_l 0 (words ++ words) starts in
    let middle = pick_l 0 (words ++ words) middles in
    let end = pick_l 0 (words ++ words) ends in
    let a : take c.put_run-at.result c.put_run-at.new.bytes ≡ text ++ start = c.put_run-at.ensures.bytes in
    let b : take c.put_run-at-2.result c.put_run-at-2.new.bytes
    ≡ take c.put_run-at.result c.put_run-at.new.bytes ++ middle = c.put_run-at-2.ensures.bytes in
    let d : take c.put_run.result c.put_run.new.bytes ≡ take c.put_run-at-2.result c.put_run-at-2.new.bytes ++ end =
    c.put_run.ensures.bytes in
    d ∙ ap (λ t. t ++ end) (b ∙ ap (λ t. t ++ middle) a)
    ∙ append_assoc (text ++ start) middle end
    ∙ append_assoc text start (middle ++ end)
    ∙ ap (λ t. text ++ t) (threes_are words c.fits-words.0)
