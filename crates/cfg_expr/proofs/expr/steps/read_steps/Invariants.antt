-- What the steps from the place on leave on the stack.
use Rattle.cfg_expr.proofs.evaluated.Read.{Reading}
use Rattle.cfg_expr.proofs.stepped.Stepping.{items}
use Rattle.cfg_expr.proofs.expr.steps.read_steps.Given as goal

abbrev pub invariant-loop-place : goal.invariant-loop-place
invariant-loop-place g l = Reading g.T.Logic (items g.T.Logic l.steps l.answers) l.place l.stack
