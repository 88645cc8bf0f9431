use Rattle.std.proofs.Common.{◌∙◌, ◌++◌, chars, ap, sym, subst}
use Rattle.tendril_bench.proofs.Pushed.{Takes, pops_whole, pops_open, pops_broken, turn, held}
use Rattle.tendril.specs.Decoding.{bytes_of}
use Rattle.tendril.specs.Lossy.{characters, due_open}
use Rattle.tendril_bench.proofs.push.push_decoded.Goals as goal

pub returns-in-Whole-clause-characters : goal.returns-in-Whole-clause-characters
returns-in-Whole-clause-characters c =
    let due = pops_whole c.loop-piece.piece c.pop_text.new.self c.in_ok-part.part
    (rw c.in-Whole.is at c.in_ok-part.ensures.1) in
    c.in_ok-push_some.ensures.ok ∙ ap (λ l. chars c.loop-piece.text.bytes ++ l) (sym due.0) ∙ c.loop-piece.invariant.0

pub returns-in-Whole-clause-keeps : goal.returns-in-Whole-clause-keeps
returns-in-Whole-clause-keeps c =
    let due = pops_whole c.loop-piece.piece c.pop_text.new.self c.in_ok-part.part
    (rw c.in-Whole.is at c.in_ok-part.ensures.1) in
    sym c.loop-piece.invariant.1 ∙ due.1

pub returns-in-Open-clause-characters : goal.returns-in-Open-clause-characters
returns-in-Open-clause-characters c =
    let due = pops_open c.loop-piece.piece c.pop_text.new.self c.in_ok-part.part
    (rw c.in-Open.is at c.in_ok-part.ensures.1) in
    c.in_ok-push_some.ensures.ok ∙ ap (λ l. chars c.loop-piece.text.bytes ++ l) (sym due.0) ∙ c.loop-piece.invariant.0

pub returns-in-Open-clause-keeps : goal.returns-in-Open-clause-keeps
returns-in-Open-clause-keeps c =
    let due = pops_open c.loop-piece.piece c.pop_text.new.self c.in_ok-part.part
    (rw c.in-Open.is at c.in_ok-part.ensures.1) in
    held c.pop_text.new.self.bytes _ c.new.result (sym c.loop-piece.invariant.1 ∙ due.1) due.2
    (subst (λ l. Takes l c.new.result) c.as_byte_slice.ensures.value c.new.ensures)

pub loop-piece-preserved : goal.loop-piece-preserved
loop-piece-preserved c =
    let due = pops_broken c.loop-piece.piece c.pop_text.new.self c.in_ok-part.part c.in-Broken.field-0
    (rw c.in-Broken.is at c.in_ok-part.ensures.1) in (
      turn (chars c.loop-piece.text.bytes) (chars c.push_some.new.text.bytes)
          (chars c.push_replacement.new.text.bytes) (chars (bytes_of c.in_ok-part.part))
          (characters (due_open c.pop_text.new.self.bytes)) _ (characters (due_open c.loop-piece.piece.bytes))
          c.in_ok-push_some.ensures.ok c.in_ok-push_replacement-in-Broken.ensures.ok due.0 c.loop-piece.invariant.0,
      sym due.1 ∙ c.loop-piece.invariant.1,
    )
