use Rattle.cfg_expr.proofs.Arranging.{asked_each-arranged}
use Rattle.cfg_expr.proofs.expr.laws.asks_as_arranged.Goals as goal

pub returns : goal.returns
returns c = λ function. asked_each-arranged
