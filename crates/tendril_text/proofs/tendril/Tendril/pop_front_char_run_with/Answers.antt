use Rattle.std.proofs.Common.{◌+◌, ◌<◌, Bool, List, arith, length, refl, rules, ℕ}
use Rattle.tendril_fmt.proofs.Runs.{is_run}
use Rattle.tendril_fmt.specs.Runs.{EndsRun}
use Rattle.tendril_text.proofs.tendril.Tendril.pop_front_char_run_with.Goals as goal
use Rattle.tendril_text.specs.Characters.{AsksLongRun}

-- a run and the remainder have more than 8 bytes each
long_parts : {F R : Type 0} (step : F → ℕ → R → F → Type 0) (eq : R → R → Bool) (valid : List ℕ → Type 0)
    (chars : List ℕ → List ℕ) (classify : F) (class : R) (text : List ℕ) (n : ℕ) (after : F)
    → EndsRun step eq valid chars classify class text n after → 8 < n → 8 + n < length text
    → AsksLongRun step eq valid chars classify text after
long_parts step eq valid chars classify class text n after h long rest =
    (record { class = class; end = n; after = after; run = h; long = long; long_rest = rest }, refl)

pub returns-in_err-run-clause-refusal : goal.returns-in_err-run-clause-refusal
returns-in_err-run-clause-refusal g c =
    let ends = rw c.as_byte_slice.ensures.value at c.in-Some.ensures.ends in
    let long = long_parts (goal.C-step g) g.R.PartialEq.eq g.F.Format.valid g.F.CharFormat.chars
    c.args.classify.now c.in-Some.class c.args.self.now.bytes c.in-Some.end c.run_end.new.classify ends in
    search (rules, long, arith)

pub returns-clause-run : goal.returns-clause-run
returns-clause-run g c =
    let ends = rw c.as_byte_slice.ensures.value at c.in-Some.ensures.ends in
    is_run (goal.C-step g) g.R.PartialEq.eq g.F.Format.valid g.F.CharFormat.chars g.F.CharFormat.encodes
    g.F.CharFormat.encoding c.args.classify.now c.in-Some.class c.args.self.now.bytes c.in-Some.end
    c.in_ok-run.run'.bytes c.take_front.new.self.bytes c.run_end.new.classify ends (search rules) (search rules)
