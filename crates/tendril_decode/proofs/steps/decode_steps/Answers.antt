use Rattle.std.proofs.Common.{[], take, drop, subst, arith}
use Rattle.tendril_decode.specs.Machines.{DecodesTo, broken_marks}
use Rattle.tendril_decode.proofs.ByteSteps.{scalar_done, two_done, owed_done}
use Rattle.tendril_decode.proofs.Lengths.{some_bytes}
use Rattle.tendril_decode.proofs.steps.decode_steps.Given.{Over}
use Rattle.tendril_decode.proofs.steps.decode_steps.Goals as goal
use Rattle.tendril_decode.proofs.steps.decode_steps.Goals.{After-step}

-- what was decoded before the byte
run_done : (g : Over) (c : After-step g)
    → DecodesTo g.S.Steps.machine c.args.state.now c.args.input.now (take c.run-run.result.written c.run-run.new.out) []
    c.loop-run.state (drop c.run-run.result.read c.args.input.now)
run_done g c =
    subst (λ b. DecodesTo g.S.Steps.machine c.args.state.now c.args.input.now
    (take c.run-run.result.written c.run-run.new.out) (broken_marks b) c.loop-run.state
    (drop c.run-run.result.read c.args.input.now)) c.if-run.false
    (c.run-run.ensures.decodes c.args.state.now c.loop-run.invariant.decodes)

pub loop-run-preserved-in-Scalar : goal.loop-run-preserved-in-Scalar
loop-run-preserved-in-Scalar g c =
    let run = c.run-run.result in
    let step = c.in-Scalar.ensures.step in
    let put = c.put_code_point-at.ensures in
    record {
      fits = c.step.ensures.fits;
      within = omega arith;
      room = omega (arith, c.loop-run.invariant.room, step.3, put.place);
      decodes =
          scalar_done g.S.Steps.machine c.args.state.now c.loop-run.state c.step.new.self c.args.input.now
          (take run.written c.run-run.new.out) run.read (omega arith)
          (run_done g (goal.at.loop-run-preserved-in-Scalar g c).After-step) c.in-Scalar.code
          (take c.put_code_point-at.result c.put_code_point-at.new.bytes) put.bytes step.0 step.1 step.2;
    }

pub loop-run-preserved-in-Two : goal.loop-run-preserved-in-Two
loop-run-preserved-in-Two g c =
    let run = c.run-run.result in
    let step = c.in-Two.ensures.step in
    let one = c.put_code_point-at-in-Two in
    let two = c.put_code_point-at-in-Two-2 in
    record {
      fits = c.step.ensures.fits;
      within = omega arith;
      room = omega (arith, c.loop-run.invariant.room, step.4, one.ensures.place, two.ensures.place);
      decodes =
          two_done g.S.Steps.machine c.args.state.now c.loop-run.state c.step.new.self c.args.input.now
          (take run.written c.run-run.new.out) run.read (omega arith)
          (run_done g (goal.at.loop-run-preserved-in-Two g c).After-step) c.in-Two.first c.in-Two.second
          (take one.result one.new.bytes) (take two.result two.new.bytes) one.ensures.bytes two.ensures.bytes step.0
          step.1 step.2 step.3;
    }

pub loop-run-smaller : goal.loop-run-smaller
loop-run-smaller g c =
    omega (
      arith,
      c.run-run.ensures.from,
      c.run-run.ensures.read,
      c.in-Owed.ensures.step.3,
      some_bytes c.in-Owed.code,
    )

pub loop-run-preserved : goal.loop-run-preserved
loop-run-preserved g c =
    let run = c.run-run.result in
    let step = c.in-Owed.ensures.step in
    let put = c.put_code_point-at-in-Owed.ensures in
    record {
      fits = c.step.ensures.fits;
      within = omega arith;
      room = omega (arith, c.loop-run.invariant.room, step.3, put.place);
      decodes =
          owed_done g.S.Steps.machine c.args.state.now c.loop-run.state c.step.new.self c.args.input.now
          (take run.written c.run-run.new.out) run.read (omega arith)
          (run_done g (goal.at.loop-run-preserved g c).After-step) c.in-Owed.code
          (take c.put_code_point-at-in-Owed.result c.put_code_point-at-in-Owed.new.bytes) put.bytes step.0 step.1
          step.2;
    }
