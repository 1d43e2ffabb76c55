-- One step more is read, or reading stops there.
use Rattle.std.proofs.Common.{◌-◌, ◌∙◌, arith, sym}
use Rattle.cfg_expr.proofs.evaluated.Read.{Reading-next, Reading-stops}
use Rattle.cfg_expr.proofs.stepped.Stepping.{step-at}
use Rattle.cfg_expr.proofs.expr.steps.read_steps.Goals as goal

pub loop-place-preserved : goal.loop-place-preserved
loop-place-preserved g c =
    let from = c.loop-place.place in
    let more = c.loop-place-test.true in
    Reading-next g.T.Logic (from - 1) from
    (step-at g.T.Logic c.args.steps.now c.args.answers.now (from - 1) from _ (omega (arith, more))
    (omega (arith, c.loop-place.auto.place, more))) c.loop-place.invariant c.read_step.new.stack
    c.in_ok-read_step.ensures.entries
    (omega (arith, c.loop-place.invariant.below, c.read_step.ensures.begin))
    c.read_step.ensures.within

pub returns-in_err-read_step : goal.returns-in_err-read_step
returns-in_err-read_step g c =
    let from = c.loop-place.place in
    let more = c.loop-place-test.true in
    c.from_residual.ensures
    ∙ sym (Reading-stops g.T.Logic (from - 1) from
    (step-at g.T.Logic c.args.steps.now c.args.answers.now (from - 1) from _ (omega (arith, more))
    (omega (arith, c.loop-place.auto.place, more))) c.loop-place.invariant
    c.in_err-read_step.ensures.entries)
