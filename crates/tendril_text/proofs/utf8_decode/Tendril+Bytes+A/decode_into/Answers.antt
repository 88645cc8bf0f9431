use Rattle.std.proofs.Common.{◌∙◌, sym, subst, inr}
use Rattle.std.proofs.lemmas.Result.{err_from_is_err_and}
use Rattle.tendril_lossy.specs.Lossy.{IsIncomplete}
use Rattle.tendril_lossy.specs.declared.search.Ending.TheVariants.{Broken}
use Rattle.tendril_text.proofs.Passing.{ended, left_open, more, start, stopped, unsent}
use Rattle.tendril_text.specs.Decoding.{PopsText}
use Rattle.tendril_text.proofs.utf8_decode.Tendril+Bytes+A.decode_into.Goals as goal

pub loop-text-init : goal.loop-text-init
loop-text-init g c = (c.requires, start g.W.Receiving.takes c.args.self.now c.args.receiver.now)

pub returns-in_err-pass_some-clause-err : goal.returns-in_err-pass_some-clause-err
returns-in_err-pass_some-clause-err g c =
    let p = err_from_is_err_and c.from_residual-in_err-pass_some.result c.from_residual-in_err-pass_some.ensures.1 in
    rw (p.1, p.2) (inr (unsent g.W.Receiving.takes g.W.Receiving.refuses c.args.self.now c.loop-text.self
    c.pop_text_after.new.self c.args.receiver.now c.loop-text.receiver c.pass_some.new.receiver c.in_ok-text.text
    c.in_ok-text.ending _ c.loop-text.invariant.1 c.in_ok-text.ensures.pops.1 c.in_err-pass_some.ensures.err))

pub new_without_validating-requires : goal.new_without_validating-requires
new_without_validating-requires g c =
    subst IsIncomplete (sym c.as_byte_slice.ensures.value)
    (left_open c.loop-text.self c.pop_text_after.new.self c.in_ok-text.text c.in_ok-text.ending
    c.in_ok-text.ensures.pops.1 c.in-Whole.is)

pub returns-in-Whole : goal.returns-in-Whole
returns-in-Whole g c =
    let all = ended g.W.Receiving.takes c.args.self.now c.loop-text.self c.pop_text_after.new.self c.args.receiver.now
    c.loop-text.receiver c.pass_some.new.receiver c.in_ok-text.text c.in_ok-text.ending c.loop-text.invariant.1
    c.in_ok-text.ensures.pops.1 c.in_ok-pass_some.ensures.ok c.in-Whole.is in
    let unfinished = left_open c.loop-text.self c.pop_text_after.new.self c.in_ok-text.text c.in_ok-text.ending
    c.in_ok-text.ensures.pops.1 c.in-Whole.is in
    record {
      ok = (all, unfinished, c.new_without_validating.ensures ∙ c.as_byte_slice.ensures.value);
      err = tt;
      ready = c.pass_some.ensures.ready;
    }

pub loop-text-preserved : goal.loop-text-preserved
loop-text-preserved g c = (
  c.replace_by.ensures.ready,
  more g.W.Receiving.takes c.args.self.now c.loop-text.self c.pop_text_after.new.self c.args.receiver.now
      c.loop-text.receiver c.pass_some.new.receiver c.replace_by.new.receiver c.in_ok-text.text
      (Broken c.in-Broken.field-0)
      c.loop-text.invariant.1 (subst (λ e. PopsText c.loop-text.self c.in_ok-text.text e c.pop_text_after.new.self)
      c.in-Broken.is c.in_ok-text.ensures.pops.1) c.in_ok-pass_some.ensures.ok
      (c.in_ok-replace_by-in-Broken.ensures.ok c.loop-text.self),
)

pub returns-in_err-replace_by-in-Broken-clause-err : goal.returns-in_err-replace_by-in-Broken-clause-err
returns-in_err-replace_by-in-Broken-clause-err g c =
    let p = err_from_is_err_and c.from_residual-in_err-replace_by-in-Broken.result
    c.from_residual-in_err-replace_by-in-Broken.ensures.1 in
    rw (p.1, p.2) (inr (stopped g.W.Receiving.takes g.W.Receiving.refuses c.args.self.now c.loop-text.self
    c.pop_text_after.new.self c.args.receiver.now c.loop-text.receiver c.pass_some.new.receiver
    c.replace_by.new.receiver c.in_ok-text.text c.in-Broken.field-0 _
    c.loop-text.invariant.1 (subst (λ e. PopsText c.loop-text.self c.in_ok-text.text e c.pop_text_after.new.self)
    c.in-Broken.is c.in_ok-text.ensures.pops.1) c.in_ok-pass_some.ensures.ok
    (c.in_err-replace_by-in-Broken.ensures.err c.loop-text.self)))
