-- The borrowed condition is seen as the expression is.
use Rattle.cfg_expr.proofs.expr.Expression.polar_fillings.Goals as goal

pub returns-clause-exact : goal.returns-clause-exact
returns-clause-exact g c = rw c.condition.ensures at c.polar_fillings.ensures.exact

pub returns-clause-fillings : goal.returns-clause-fillings
returns-clause-fillings g c = rw c.condition.ensures at c.polar_fillings.ensures.fillings
