-- The places are those of the predicates of the text's one tree.
use Rattle.cfg_expr.proofs.expr.condition.Condition.places.Goals as goal

pub returns : goal.returns
returns c =
    let keeps = rw c.self.view_is at c.self.invariant in (keeps.one, keeps.keeps.places_are)
