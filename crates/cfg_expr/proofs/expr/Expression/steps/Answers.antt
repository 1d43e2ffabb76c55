-- The borrowed condition is seen as the expression is.
use Rattle.cfg_expr.proofs.expr.Expression.steps.Goals as goal

pub returns : goal.returns
returns g c = rw c.condition.ensures at c.steps.ensures
