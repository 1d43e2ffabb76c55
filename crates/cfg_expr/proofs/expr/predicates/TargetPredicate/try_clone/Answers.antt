use Rattle.std.proofs.Common.{rules}
use Rattle.cfg_expr.proofs.expr.predicates.TargetPredicate.try_clone.Goals as goal

pub returns-in-PointerWidth : goal.returns-in-PointerWidth
returns-in-PointerWidth g c = search rules
