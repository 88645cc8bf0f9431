use Rattle.std.proofs.Common.{◌<◌, ◌∙◌, length, take, subst, sym, arith}
use Rattle.std.proofs.lemmas.List.{get_or_default}
use Rattle.memchr.specs.Find.{is_byte}
use Rattle.tendril_fmt.proofs.Pieces.{lacks-append}
use Rattle.tendril_text.proofs.TextLists.{joined_more}
use Rattle.tendril_fmt.specs.Cuts.{EndsFirstLine, LacksFeed}
use Rattle.tendril_text.specs.TextLists.{bytes_of_all}
use Rattle.tendril_text.specs.Texts.{Text}
use Rattle.tendril_queue.proofs.lines.find_feed.Goals as goal

pub returns-in-Some-clause-some : goal.returns-in-Some-clause-some
returns-in-Some-clause-some g c =
    let xs = c.args.texts.now.items in
    let t = c.index.result.now in
    let at = c.loop-index.index in
    let len = c.args.texts.now.ok.0 in
    let inside : at < length xs = omega arith in
    record {
      inside = inside;
      lacks = c.loop-index.invariant;
      line = λ u is. subst (λ (x : Text). EndsFirstLine x.bytes c.in-Some.count)
          (c.index.ensures ∙ get_or_default xs at t u inside ∙ sym is) c.in-Some.ensures.some;
    }

pub loop-index-preserved : goal.loop-index-preserved
loop-index-preserved g c =
    let len = c.args.texts.now.ok.0 in
    let xs = c.args.texts.now.items in
    let t = c.index.result.now in
    let at = c.loop-index.index in
    subst LacksFeed (sym (joined_more xs at t (omega arith) c.index.ensures))
    (lacks-append (is_byte 10) (bytes_of_all (take at xs)) t.bytes c.loop-index.invariant c.in_default.ensures.none)
