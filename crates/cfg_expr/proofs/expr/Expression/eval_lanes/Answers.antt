-- The borrowed condition is seen as the expression is.
use Rattle.cfg_expr.proofs.expr.Expression.eval_lanes.Goals as goal

pub returns-clause-lanes : goal.returns-clause-lanes
returns-clause-lanes g c = rw c.condition.ensures at c.eval_lanes.ensures.lanes

pub returns-clause-value : goal.returns-clause-value
returns-clause-value g c = rw c.condition.ensures at c.eval_lanes.ensures.value
