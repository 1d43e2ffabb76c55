use Rattle.cfg_expr.proofs.stepped.StepStack.{after-steps_of, stack-of-rest}
use Rattle.cfg_expr.proofs.expr.laws.steps_are_read_with_a_stack.Goals as goal

pub returns-clause-folded : goal.returns-clause-folded
returns-clause-folded g c = λ algebra tree answers stack many.
    after-steps_of g.T.Logic algebra answers tree stack many

pub returns-clause-height : goal.returns-clause-height
returns-clause-height g c = λ algebra tree answers stack before read many is.
    stack-of-rest g.T.Logic algebra answers tree stack before read many is
