use Rattle.cfg_expr.proofs.stepped.Forests.{HasValue-one}
use Rattle.cfg_expr.proofs.expr.laws.steps_have_one_value.Goals as goal

pub returns : goal.returns
returns g c steps answers = HasValue-one g.T.Logic answers steps
