use Rattle.std.proofs.Common.{◌+◌, ◌-◌, ◌≤◌, length, take, drop, IsUtf8, sym, ap, subst, ◌∙◌, arith, length-drop}
use Rattle.std.proofs.lemmas.List.{length-take}
use Rattle.std.proofs.Math.Seq.{take-length}
use Rattle.tendril_lossy.specs.declared.search.Ending.TheVariants.{Broken, Open}
use Rattle.tendril_lossy.proofs.Lossy.{part_whole}
use Rattle.tendril_lossy.proofs.Windows.{whole, grow_front, window_bad, rest_cut}
use Rattle.tendril_lossy.proofs.Near.{at_length}
use Rattle.tendril_lossy.proofs.search.near_end.Goals as goal

pub returns-in-Ok-clause-text : goal.returns-in-Ok-clause-text
returns-in-Ok-clause-text c =
    let bs = c.args.bytes.now in
    subst IsUtf8 (sym (take-length bs)) (whole bs c.args.at c.requires.text c.in-Ok.ensures.cases.1)

pub returns-in-Ok-clause-items : goal.returns-in-Ok-clause-items
returns-in-Ok-clause-items c =
    let bs = c.args.bytes.now in
    part_whole bs (take (length bs) bs) (whole bs c.args.at c.requires.text c.in-Ok.ensures.cases.1) (take-length bs)

pub returns-in-Some-clause-text : goal.returns-in-Some-clause-text
returns-in-Some-clause-text c =
    let bs = c.args.bytes.now in
    let at = c.args.at in
    subst (λ n. IsUtf8 (take (at + n) bs)) (sym c.valid_up_to.ensures)
    (grow_front bs at _ _ c.requires.text c.in-Err.ensures.cases.1)

pub returns-in-Some-clause-items : goal.returns-in-Some-clause-items
returns-in-Some-clause-items c =
    let bs = c.args.bytes.now in
    let at = c.args.at in
    let n = c.valid_up_to.result in
    let valid = c.in-Err.ensures.cases.1 in
    let short = valid.short in
    let within = c.requires.within in
    let le : at + n ≤ length bs = omega
    (arith, c.valid_up_to.ensures, short, length-take (length bs - at) (drop at bs), length-drop at bs) in
    at_length bs (at + n) (Broken c.in-Some.len) le
    (window_bad bs (take (at + n) bs) at _ c.in-Err.error.valid_up_to c.in-Some.len c.requires.text (omega arith) valid
    (sym c.in-Err.ensures.fault ∙ sym c.error_len.ensures ∙ c.in-Some.is)
    (ap (λ m. take (at + m) bs) c.valid_up_to.ensures))

pub returns-in-None-clause-text : goal.returns-in-None-clause-text
returns-in-None-clause-text c =
    let bs = c.args.bytes.now in
    let at = c.args.at in
    subst (λ n. IsUtf8 (take (at + n) bs)) (sym c.valid_up_to.ensures)
    (grow_front bs at _ _ c.requires.text c.in-Err.ensures.cases.1)

pub returns-in-None-clause-items : goal.returns-in-None-clause-items
returns-in-None-clause-items c =
    let bs = c.args.bytes.now in
    let at = c.args.at in
    let n = c.valid_up_to.result in
    let valid = c.in-Err.ensures.cases.1 in
    let short = valid.short in
    let within = c.requires.within in
    let le : at + n ≤ length bs = omega
    (arith, c.valid_up_to.ensures, short, length-take (length bs - at) (drop at bs), length-drop at bs) in
    at_length bs (at + n) Open le
    (rest_cut bs (take (at + n) bs) at c.in-Err.error.valid_up_to c.requires.text within valid
    (sym c.in-Err.ensures.fault ∙ sym c.error_len.ensures ∙ c.in-None.is)
    (ap (λ m. take (at + m) bs) c.valid_up_to.ensures))
