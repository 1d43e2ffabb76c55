-- What was decided says which fillings there are.
use Rattle.cfg_expr.proofs.expr.condition.Condition.polar_fillings.Goals as goal

pub returns-in-Known-clause-fillings : goal.returns-in-Known-clause-fillings
returns-in-Known-clause-fillings g c =
    let decided = rw c.in-Known.is at c.in_ok-decide.ensures.decision in
    (decided.0, (_, decided.1.is))

pub returns-in-Unknown-clause-fillings : goal.returns-in-Unknown-clause-fillings
returns-in-Unknown-clause-fillings g c =
    let (one, exactly) = rw c.in-Unknown.is at c.in_ok-decide.ensures.decision in
    let (unknown, first, second) = exactly.is in
    (one, (unknown, first, second, exactly.fillings.0, exactly.fillings.1))
