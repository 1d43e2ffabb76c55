-- What the members from the place on make.
use Rattle.cfg_expr.specs.nodes.Reading.{identity_of, join_of}
use Rattle.cfg_expr.proofs.evaluated.Joined.{JoinsLeaves}
use Rattle.cfg_expr.proofs.expr.evaluating.Connective.join_leaves.Given as goal

abbrev pub invariant-loop-place : goal.invariant-loop-place
invariant-loop-place g l = JoinsLeaves (join_of g.T.Logic l.self) (identity_of g.T.Logic l.self)
    l.initial.members l.place l.value l.begin l.members
