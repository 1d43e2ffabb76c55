use Rattle.cfg_expr.proofs.Dealing.{asked-answered}
use Rattle.cfg_expr.proofs.expr.laws.answered_trees_ask_their_answers.Goals as goal

pub returns : goal.returns
returns g c = asked-answered g.T.Logic.top
