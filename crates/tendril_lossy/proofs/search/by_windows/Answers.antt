use Rattle.std.proofs.Common.{rules, ◌≡◌, ◌∙◌, ◌+◌, ◌-◌, sym, ap, subst, take, drop, IsUtf8, arith}
use Rattle.std.proofs.lemmas.List.{length-take}
use Rattle.tendril_lossy.proofs.Lossy.{part_whole}
use Rattle.tendril_lossy.proofs.Fronts.{ends_within}
use Rattle.tendril_lossy.proofs.Completions.{ends_open}
use Rattle.tendril_lossy.proofs.Windows.{grow, whole, grow_front, window_bad, rest_cut}
use Rattle.tendril_lossy.proofs.search.by_windows.Goals.{in-Ok, in-Err+in_default}
use Rattle.tendril_lossy.proofs.search.by_windows.Goals as goal

pub from_utf8_unchecked-text-requires : goal.from_utf8_unchecked-text-requires
from_utf8_unchecked-text-requires c =
    let bs = c.args.bytes.now in
    let at = c.loop-window.at in
    subst (λ n. IsUtf8 (take (at + n) bs)) (sym c.valid_up_to.ensures)
    (grow_front bs at _ _ c.loop-window.invariant.text c.in-Err.ensures.cases.1)

pub returns-in-Some-clause-items : goal.returns-in-Some-clause-items
returns-in-Some-clause-items c =
    let bs = c.args.bytes.now in
    let at = c.loop-window.at in
    let test = c.loop-window-test.true in
    window_bad bs _ at _ c.in-Err.error.valid_up_to c.in-Some.len c.loop-window.invariant.text
    (omega (arith, test)) c.in-Err.ensures.cases.1
    (sym c.in-Err.ensures.fault ∙ sym c.error_len.ensures ∙ c.in-Some.is)
    (c.from_utf8_unchecked-text.ensures ∙ ap (λ n. take (at + n) bs) c.valid_up_to.ensures)

pub loop-window-preserved : goal.loop-window-preserved
loop-window-preserved c =
    let bs = c.args.bytes.now in
    let at = c.loop-window.at in
    let w = c.loop-window.window in
    let i = c.loop-window.invariant in
    let some = i.some in
    let test = c.loop-window-test.true in
    let end = c.char_start-end.result in
    let near = c.char_start-end.ensures in
    elim c.match-from_utf8.branch [
      | in-Ok b ↦
          record {
            text = subst (λ n. IsUtf8 (take n bs)) (sym b.at-is)
                (subst (λ n. IsUtf8 (take n bs)) (let e : at + (end - at) ≡ end = omega (arith, near) in
                e) (grow bs at (end - at) i.text b.in-Ok.ensures.cases.1));
            within = omega (arith, b.at-is, test, near);
            some = omega (arith, some);
          }
      | in-Err+in_default b ↦
          let valid = b.in-Err.ensures.cases.1 in
          let short = valid.short in
          record {
            text = subst (λ n. IsUtf8 (take n bs)) (sym b.at-is)
                (subst (λ n. IsUtf8 (take (at + n) bs)) (sym b.valid_up_to.ensures)
                (grow_front bs at _ _ i.text valid));
            within = omega (
              arith,
              b.at-is,
              b.valid_up_to.ensures,
              short,
              length-take (end - at)
                  (drop at bs),
              test,
              near,
            );
            some = omega (arith, some);
          }
    ]

pub from_utf8_unchecked-requires : goal.from_utf8_unchecked-requires
from_utf8_unchecked-requires c =
    whole c.args.bytes.now c.last_start-at.result c.last_start-at.ensures.text c.in-Ok-from_utf8.ensures.cases.1

pub from_utf8_unchecked-text-requires-in-Err-from_utf8 : goal.from_utf8_unchecked-text-requires-in-Err-from_utf8
from_utf8_unchecked-text-requires-in-Err-from_utf8 c =
    let bs = c.args.bytes.now in
    let at = c.last_start-at.result in
    subst (λ n. IsUtf8 (take (at + n) bs)) (sym c.valid_up_to-in-Err-from_utf8.ensures)
    (grow_front bs at _ _ c.last_start-at.ensures.text c.in-Err-from_utf8.ensures.cases.1)

pub returns-in-Ok-from_utf8-clause-items : goal.returns-in-Ok-from_utf8-clause-items
returns-in-Ok-from_utf8-clause-items c = part_whole c.args.bytes.now c.from_utf8_unchecked.result.now
    (whole c.args.bytes.now c.last_start-at.result c.last_start-at.ensures.text c.in-Ok-from_utf8.ensures.cases.1)
    c.from_utf8_unchecked.ensures

pub returns-in-Some-error_len-clause-items : goal.returns-in-Some-error_len-clause-items
returns-in-Some-error_len-clause-items c =
    let bs = c.args.bytes.now in
    let at = c.last_start-at.result in
    let within = c.last_start-at.ensures.within in
    window_bad bs _ at _ c.in-Err-from_utf8.error.valid_up_to c.in-Some-error_len.len c.last_start-at.ensures.text
    (omega arith) c.in-Err-from_utf8.ensures.cases.1
    (sym c.in-Err-from_utf8.ensures.fault ∙ sym c.error_len-in-Err-from_utf8.ensures ∙ c.in-Some-error_len.is)
    (c.from_utf8_unchecked-text-in-Err-from_utf8.ensures
    ∙ ap (λ n. take (at + n) bs) c.valid_up_to-in-Err-from_utf8.ensures)

pub returns-in-None-clause-items : goal.returns-in-None-clause-items
returns-in-None-clause-items c =
    let bs = c.args.bytes.now in
    let at = c.last_start-at.result in
    rest_cut bs _ at c.in-Err-from_utf8.error.valid_up_to c.last_start-at.ensures.text c.last_start-at.ensures.within
    c.in-Err-from_utf8.ensures.cases.1
    (sym c.in-Err-from_utf8.ensures.fault ∙ sym c.error_len-in-Err-from_utf8.ensures ∙ c.in-None.is)
    (c.from_utf8_unchecked-text-in-Err-from_utf8.ensures
    ∙ ap (λ n. take (at + n) bs) c.valid_up_to-in-Err-from_utf8.ensures)

pub returns-in-Some-clause-within : goal.returns-in-Some-clause-within
returns-in-Some-clause-within c = ends_within c.args.bytes.now _ c.in-Some.len (search rules)
    (returns-in-Some-clause-items c)

pub returns-in-Some-error_len-clause-within : goal.returns-in-Some-error_len-clause-within
returns-in-Some-error_len-clause-within c = ends_within c.args.bytes.now _ c.in-Some-error_len.len (search rules)
    (returns-in-Some-error_len-clause-items c)

pub returns-in-None-clause-within : goal.returns-in-None-clause-within
returns-in-None-clause-within c =
    ends_open c.args.bytes.now _ (record {
      front_is = search rules;
      text = search rules;
      items =
          returns-in-None-clause-items c;
    })
