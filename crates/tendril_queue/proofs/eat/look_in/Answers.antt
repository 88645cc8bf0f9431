use Rattle.std.proofs.Common.{◌≡◌, ◌<◌, ◌+◌, length, sym, ◌∙◌, arith, true≢false}
use Rattle.tendril_queue.proofs.Looked.{IsNext, begins, bounds, differs, parts_same, passed_more, same_parts}
use Rattle.tendril_queue.proofs.eat.look_in.Goals as goal

pub returns-then-not-is_same : goal.returns-then-not-is_same
returns-then-not-is_same g c =
    let xs = c.args.texts.now.items in
    let pattern = c.args.pattern.now in
    let t = c.index.result.now in
    let n = c.min-count.result in
    let at = c.loop-index.at in
    let len = c.args.texts.now.ok.0 in
    let passed = c.loop-index.invariant in
    let read = c.as_byte_slice-text.ensures.value in
    let fits = bounds pattern c.as_byte_slice-text.result.now t.bytes at n read passed.within c.min-count.ensures in
    let next : IsNext c.args.case pattern xs t c.loop-index.index at n = record {
      there = omega arith;
      is =
          c.index.ensures;
      in_text = fits.0;
      in_pattern = fits.1;
    } in
    differs c.args.case pattern xs t c.loop-index.index at n passed next
    (λ same. true≢false (sym (c.is_same.ensures.1 (parts_same pattern c.as_byte_slice-text.result.now t.bytes at n
    read c.args.case same)) ∙ c.if-not-is_same.true))

pub returns-then-at-pattern : goal.returns-then-at-pattern
returns-then-at-pattern g c =
    let xs = c.args.texts.now.items in
    let pattern = c.args.pattern.now in
    let t = c.index.result.now in
    let n = c.min-count.result in
    let at = c.loop-index.at in
    let len = c.args.texts.now.ok.0 in
    let passed = c.loop-index.invariant in
    let read = c.as_byte_slice-text.ensures.value in
    let fits = bounds pattern c.as_byte_slice-text.result.now t.bytes at n read passed.within c.min-count.ensures in
    let next : IsNext c.args.case pattern xs t c.loop-index.index at n = record {
      there = omega arith;
      is =
          c.index.ensures;
      in_text = fits.0;
      in_pattern = fits.1;
    } in
    let same = same_parts pattern c.as_byte_slice-text.result.now t.bytes at n read c.args.case
    (c.is_same.ensures.0 c.if-not-is_same.false) in
    let all : at + n ≡ length pattern = omega arith in
    begins c.args.case pattern xs t c.loop-index.index at n passed next same all

pub loop-index-preserved : goal.loop-index-preserved
loop-index-preserved g c =
    let xs = c.args.texts.now.items in
    let pattern = c.args.pattern.now in
    let t = c.index.result.now in
    let n = c.min-count.result in
    let at = c.loop-index.at in
    let len = c.args.texts.now.ok.0 in
    let passed = c.loop-index.invariant in
    let read = c.as_byte_slice-text.ensures.value in
    let fits = bounds pattern c.as_byte_slice-text.result.now t.bytes at n read passed.within c.min-count.ensures in
    let next : IsNext c.args.case pattern xs t c.loop-index.index at n = record {
      there = omega arith;
      is =
          c.index.ensures;
      in_text = fits.0;
      in_pattern = fits.1;
    } in
    let same = same_parts pattern c.as_byte_slice-text.result.now t.bytes at n read c.args.case
    (c.is_same.ensures.0 c.if-not-is_same.false) in
    let most = fits.1 in
    let goes_on : at + n < length pattern = omega arith in
    passed_more c.args.case pattern xs t c.loop-index.index at n passed next same goes_on (fits.2 goes_on)
