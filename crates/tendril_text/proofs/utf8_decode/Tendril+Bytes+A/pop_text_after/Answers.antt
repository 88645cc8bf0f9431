use Rattle.std.proofs.Common.{rules, ◌≡◌, ◌≤◌, Err, ⊎_elim, inr, Some, sym, subst, ap, ◌∙◌, length, length-take}
use Rattle.std.proofs.Common.{length-drop, arith, IsUtf8}
use Rattle.std.proofs.lemmas.Bool.Decides.{nat_tests}
use Rattle.tendril_text.proofs.Decoding.{both_share, TakesText, nothing_taken, text_taken, left_alone, popped}
use Rattle.tendril_text.proofs.Decoding.{rest-kept}
use Rattle.tendril_text.specs.Decoding.{IsRest, PopsText}
use Rattle.tendril_lossy.proofs.Completions.{IsFirstPart}
use Rattle.tendril_lossy.specs.AfterText.{EndsWithin}
use Rattle.tendril_lossy.specs.declared.search.Ending.TheVariants.{Broken}
use Rattle.tendril_storage.specs.Partings.{IsParted}
use Rattle.tendril_text.proofs.utf8_decode.Tendril+Bytes+A.pop_text_after.Goals.{in-0}
use Rattle.tendril_text.proofs.utf8_decode.Tendril+Bytes+A.pop_text_after.Goals.{in_default-count+in_ok-text-in_default-count}
use Rattle.tendril_text.proofs.utf8_decode.Tendril+Bytes+A.pop_text_after.Goals.{in-Broken+in_default-take_few_text}
use Rattle.tendril_text.proofs.utf8_decode.Tendril+Bytes+A.pop_text_after.Goals.{in_default, in-Broken-ending, in-Whole}
use Rattle.tendril_text.proofs.utf8_decode.Tendril+Bytes+A.pop_text_after.Goals as goal

pub returns-clause-pops : goal.returns-clause-pops
returns-clause-pops g c =
    let old = c.args.self.now in
    let start = c.match-ending.self in
    let mid = c.match-count.self in
    let new = c.match-ending-2.self in
    let front = c.first_part_by-ending.result.0.now in
    let ending = c.first_part_by-ending.result.1 in
    let is = c.as_byte_slice.ensures.value in
    let stays : start ≡ old = elim c.match-ending.branch [
      | in-Broken+in_default-take_few_text w ↦ w.self-is ∙ w.in_default-take_few_text.ensures
      | in_default w ↦ w.self-is
    ] in
    let ends : c.match-ending.ending ≡ ending = elim c.match-ending.branch [
      | in-Broken+in_default-take_few_text w ↦ w.ending-is ∙ sym w.in-Broken.is
      | in_default w ↦ w.ending-is
    ] in
    let part : IsFirstPart old.bytes front ending =
    subst (λ bs. IsFirstPart bs front ending) is
    (record {
      front_is = c.first_part_by-ending.ensures.front;
      text = search rules;
      items =
          c.first_part_by-ending.ensures.items;
    }) in
    let within : EndsWithin old.bytes (length front) ending =
    subst (λ bs. EndsWithin bs (length front) ending) is c.first_part_by-ending.ensures.within in
    let taken : TakesText (length front) old c.match-count.text mid = elim c.match-count.branch [
      | in-0 w ↦ nothing_taken old mid c.match-count.text (length front) w.in-0.is (w.self-is ∙ stays) w.text-is
      | in_default-count+in_ok-text-in_default-count w ↦
          text_taken old mid w.take_front.new.self w.in_ok-text-in_default-count.text c.match-count.text (length front)
          (let no = w.in_default-count in grind (arith, nat_tests))
          (omega (arith, ap length part.front_is, length-take (length front) old.bytes))
          (subst IsUtf8 part.front_is part.text)
          (subst (λ o. IsParted (length front) o w.in_ok-text-in_default-count.text w.take_front.new.self) stays
          w.in_ok-text-in_default-count.ensures.1)
          w.self-is (w.text-is ∙ ap Some w.reinterpret_without_validating.ensures)
    ] in (
      tt,
      elim c.match-ending-2.branch [
        | in-Broken-ending w ↦
            let left = w.skip.new.self in
            let len = w.in-Broken-ending.len in
            let broken : ending ≡ Broken len = sym ends ∙ w.in-Broken-ending.is in
            let less : length left.bytes ≤ length mid.bytes =
            omega (arith, ap length w.skip.ensures.bytes, length-drop len mid.bytes) in
            let at : PopsText old c.match-count.text (Broken len) left =
            popped old mid left front (Broken len) c.match-count.text
            (subst (IsFirstPart old.bytes front) broken part)
            (subst (EndsWithin old.bytes (length front)) broken within) taken
            w.skip.ensures.bytes (rest-kept old mid left taken.part less w.skip.ensures.copied) in
            rw (w.ending-is, w.self-is) at
        | in-Whole w ↦
            let at : PopsText old c.match-count.text c.match-ending.ending new =
            popped old mid new front c.match-ending.ending c.match-count.text
            (subst (IsFirstPart old.bytes front) (sym ends) part)
            (subst (EndsWithin old.bytes (length front)) (sym ends) within) taken
            (left_alone mid new c.match-ending.ending w.in-Whole.is w.self-is)
            (subst (IsRest old) (sym w.self-is) taken.part) in
            rw w.ending-is at
      ],
    )

pub returns-in_err-text-in_default-count-clause-pops : goal.returns-in_err-text-in_default-count-clause-pops
returns-in_err-text-in_default-count-clause-pops g c =
    let old = c.args.self.now in
    let start = c.match-ending.self in
    let front = c.first_part_by-ending.result.0.now in
    let ending = c.first_part_by-ending.result.1 in
    let stays : start ≡ old = elim c.match-ending.branch [
      | in-Broken+in_default-take_few_text w ↦ w.self-is ∙ w.in_default-take_few_text.ensures
      | in_default w ↦ w.self-is
    ] in
    let part : IsFirstPart old.bytes front ending =
    subst (λ bs. IsFirstPart bs front ending) c.as_byte_slice.ensures.value
    (record {
      front_is = c.first_part_by-ending.ensures.front;
      text = search rules;
      items =
          c.first_part_by-ending.ensures.items;
    }) in
    let refused = rw stays at c.in_err-text-in_default-count.ensures in
    let why = refused.0 in
    let same : c.from_residual.result ≡ Err c.in_err-text-in_default-count.field-0.0 = search rules in
    rw same (⊎_elim absurd (λ w. inr (tt, (w.1.0, both_share old.bytes front ending part w.1.1 w.1.2))) why, refused.1)
