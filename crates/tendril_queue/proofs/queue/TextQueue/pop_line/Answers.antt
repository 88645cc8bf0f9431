use Rattle.std.proofs.Common.{◌++◌, ◌∙◌, length, drop, refl, sym, ap, subst, rules, ⊎_elim}
use Rattle.std.proofs.lemmas.Result.{err_from_is_err_and}
use Rattle.std.specs.Prelude.{IsUtf8}
use Rattle.memchr.specs.Find.{is_byte}
use Rattle.tendril_queue.proofs.Fronts.{all_bytes}
use Rattle.tendril_queue.proofs.Lined.{
  DropsLine,
  line_first,
  line_within,
  popped_first,
  popped_spanning,
  refused_first,
  refused_spanning,
  text_at,
}
use Rattle.tendril_queue.specs.Lines.{HasFirstFeed}
use Rattle.tendril_queue.specs.Queues.{Queued, all_texts}
use Rattle.tendril_errors.specs.declared.refusal.Refusal.TheVariants.{Count}
use Rattle.tendril_fmt.proofs.Pieces.{lacks-append}
use Rattle.tendril_fmt.specs.Cuts.{LacksFeed}
use Rattle.tendril_text.specs.TextLists.{bytes_of_all}
use Rattle.tendril_queue.proofs.queue.TextQueue.pop_line.Goals as goal

pub returns-in-Ok-clause-some : goal.returns-in-Ok-clause-some
returns-in-Ok-clause-some g c =
    let parted = c.in-Ok.ensures.parts.1 in
    popped_first c.self.inside.first c.self.inside.rest.items c.in-Some.count c.in-Some.ensures.some c.in-Ok.line
    c.split_to.new.self (all_texts c.refill.new.first c.refill.new.rest.items) c.args.self.now c.self.view_is
    parted.front_bytes parted.rest_bytes parted.copied c.refill.ensures.texts

pub returns-in-Err-clause-refusal : goal.returns-in-Err-clause-refusal
returns-in-Err-clause-refusal g c =
    refused_first c.self.inside.first c.self.inside.rest.items c.in-Some.count c.in-Some.ensures.some c.args.self.now
    Count c.self.view_is (⊎_elim absurd (λ h. (refl, h.1.1, h.1.2)) c.in-Err.ensures.parts.0)

pub returns-in_default-find_feed-clause-none : goal.returns-in_default-find_feed-clause-none
returns-in_default-find_feed-clause-none g c =
    let first = c.self.inside.first in
    let xs = c.self.inside.rest.items in (
      subst (λ (q : Queued). LacksFeed q.bytes) c.self.view_is (subst LacksFeed (sym (all_bytes first xs))
          (lacks-append (is_byte 10) first.bytes (bytes_of_all xs) c.in_default.ensures.none
          c.in_default-find_feed.ensures.none)),
      refl,
    )

pub returns-in_err-line-clause-refusal : goal.returns-in_err-line-clause-refusal
returns-in_err-line-clause-refusal g c =
    let first = c.self.inside.first in
    let xs = c.self.inside.rest.items in
    let index = c.in-Some-find_feed.index in
    let count = c.in-Some-find_feed.count in
    let feed : HasFirstFeed xs index count = search rules in
    let at = text_at xs index first feed.inside in
    let p = err_from_is_err_and c.from_residual.result c.from_residual.ensures.1 in
    rw (p.1, p.2) (refused_spanning first xs index count c.self.invariant feed c.in_default.ensures.none at.0 at.1
    c.args.self.now _ c.self.view_is c.in_err-line.ensures.err)

pub drop_front-requires-clause-there : goal.drop_front-requires-clause-there
drop_front-requires-clause-there g c =
    let first = c.self.inside.first in
    let xs = c.self.inside.rest.items in
    let index = c.in-Some-find_feed.index in
    let count = c.in-Some-find_feed.count in
    let feed : HasFirstFeed xs index count = search rules in
    let at = text_at xs index first feed.inside in
    line_within first xs index count c.self.invariant feed c.in_default.ensures.none at.0 at.1
    c.as_byte_slice-all.result.now (c.as_byte_slice-all.ensures.value ∙ c.in_ok-line.ensures.ok at.0 at.1)

pub drop_front-requires-clause-valid : goal.drop_front-requires-clause-valid
drop_front-requires-clause-valid g c =
    let first = c.self.inside.first in
    let xs = c.self.inside.rest.items in
    let index = c.in-Some-find_feed.index in
    let count = c.in-Some-find_feed.count in
    let feed : HasFirstFeed xs index count = search rules in
    let at = text_at xs index first feed.inside in
    let value = c.as_byte_slice-all.ensures.value in
    subst IsUtf8 (sym (line_first first xs index count c.self.invariant feed c.in_default.ensures.none at.0 at.1
    c.as_byte_slice-all.result.now (value ∙ c.in_ok-line.ensures.ok at.0 at.1)))
    (subst IsUtf8 (sym value) c.as_byte_slice-all.ensures.valid)

pub returns-clause-some : goal.returns-clause-some
returns-clause-some g c =
    let first = c.self.inside.first in
    let xs = c.self.inside.rest.items in
    let index = c.in-Some-find_feed.index in
    let count = c.in-Some-find_feed.count in
    let feed : HasFirstFeed xs index count = search rules in
    let at = text_at xs index first feed.inside in
    let line = c.in_ok-line.line in
    let dropped : DropsLine first xs (length line.bytes) c.drop_front.new.first c.drop_front.new.rest.items = record {
      bytes = c.drop_front.ensures.bytes ∙ ap (λ b. drop (length b) (first.bytes ++ bytes_of_all xs))
          c.as_byte_slice-all.ensures.value;
      texts = c.drop_front.ensures.texts;
    } in
    popped_spanning first xs index count c.self.invariant feed c.in_default.ensures.none at.0 at.1 line
    c.drop_front.new.first c.drop_front.new.rest.items c.args.self.now c.self.view_is
    (c.in_ok-line.ensures.ok at.0 at.1) dropped
