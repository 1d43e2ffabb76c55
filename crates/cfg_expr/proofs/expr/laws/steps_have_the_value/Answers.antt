use Rattle.cfg_expr.proofs.stepped.Numbers.{AreCounted-steps, HasValue-steps}
use Rattle.cfg_expr.proofs.expr.laws.steps_have_the_value.Goals as goal

pub returns-clause-value : goal.returns-clause-value
returns-clause-value g c = HasValue-steps g.T.Logic

pub returns-clause-counted : goal.returns-clause-counted
returns-clause-counted g c = AreCounted-steps
