-- The borrowed condition is seen as the expression is.
use Rattle.cfg_expr.proofs.expr.Expression.predicates.Goals as goal

pub returns : goal.returns
returns g c = rw c.condition.ensures at c.predicates.ensures
