use Rattle.cfg_expr.proofs.LocatedOnce.{located_once}
use Rattle.cfg_expr.proofs.expr.laws.predicates_are_located_once.Goals as goal

pub returns : goal.returns
returns c = located_once
