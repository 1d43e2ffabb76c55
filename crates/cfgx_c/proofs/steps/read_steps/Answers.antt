-- A step that is none makes the list that of no steps.
use Rattle.cfgx_c.proofs.CSteps.{no_steps}
use Rattle.cfgx_c.proofs.steps.read_steps.Goals as goal

pub returns-in_default : goal.returns-in_default
returns-in_default c = no_steps c.args.steps.now c.loop-i.i _ c.loop-i-test.true
    c.in_default.ensures
