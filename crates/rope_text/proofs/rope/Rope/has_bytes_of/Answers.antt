use Rattle.std.proofs.Common.{length, take, sym, ap, ◌∙◌, arith}
use Rattle.std.specs.Cmp.Lexicographic.{bytes_decides, pointwise}
use Rattle.std.specs.Prelude.{nat_eq}
use Rattle.rope_text.proofs.Compared.{not_so, same_more, same_part, told_equal}
use Rattle.rope_text.proofs.Shared.{not_false}
use Rattle.rope_text.specs.Ropes.{RopeText}
use Rattle.rope_text.proofs.rope.Rope.has_bytes_of.Goals as goal

pub returns-then-ne : goal.returns-then-ne
returns-then-ne g c =
    let a = c.rest_at-mine.result.now in
    let b = c.rest_at-others.result.now in
    let n = c.min-count.result in (
      λ t. not_so t,
      λ same.
          let part = same_part c.args.self.now.bytes c.args.other.now.bytes a b c.loop-at.at n (omega arith)
          (omega arith) c.rest_at-mine.ensures.bytes c.rest_at-others.ensures.bytes same in
          told_equal c.ne.result (pointwise nat_eq (take n a) (take n b)) c.ne.ensures c.if-ne.true
          ((bytes_decides (take n a) (take n b)).1 part),
    )

pub overflow_add-at : goal.overflow_add-at
overflow_add-at g c =
    let within = c.rest_at-mine.ensures.within in
    let count = c.self.invariant.counts in
    let fits = c.self.invariant.fits in
    let size = ap (λ (r : RopeText). length r.bytes) c.self.view_is in
    omega arith

pub loop-at-preserved : goal.loop-at-preserved
loop-at-preserved g c =
    let a = c.rest_at-mine.result.now in
    let b = c.rest_at-others.result.now in
    let n = c.min-count.result in
    let equal = not_false (pointwise nat_eq (take n a) (take n b)) (sym c.ne.ensures ∙ c.if-ne.false) in
    let part = (bytes_decides (take n a) (take n b)).0 equal in
    record {
      within = let w = c.rest_at-mine.ensures.within in omega arith;
      same = same_more c.args.self.now.bytes c.args.other.now.bytes a b c.loop-at.at n (omega arith)
          (omega arith) c.rest_at-mine.ensures.bytes c.rest_at-others.ensures.bytes part c.loop-at.invariant.same;
    }
