-- The text has one tree, which is exact over its answers.
use Rattle.cfg_expr.proofs.Exactness.{IsExact-fold}
use Rattle.cfg_expr.proofs.expr.condition.Condition.write_fillings.Goals as goal

pub returns-clause-exact : goal.returns-clause-exact
returns-clause-exact g c =
    let one = c.write_fillings.ensures.one in (one, IsExact-fold one.tree)
