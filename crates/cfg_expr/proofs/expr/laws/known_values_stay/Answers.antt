use Rattle.cfg_expr.proofs.Exactness.{known_stays}
use Rattle.cfg_expr.proofs.expr.laws.known_values_stay.Goals as goal

pub returns : goal.returns
returns c = λ tree answers later value keeps is. rw is at (known_stays tree answers later keeps)
