use Rattle.std.proofs.Common.{rules}
use Rattle.cfg_expr.proofs.expr.predicates.TargetPredicate.matches.Goals as goal

pub returns : goal.returns
returns g c = search rules
