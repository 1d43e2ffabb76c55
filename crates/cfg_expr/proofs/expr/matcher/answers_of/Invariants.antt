-- The lanes are the answers of the rows behind those that are left.
use Rattle.std.proofs.Common.{length}
use Rattle.cfg_expr.specs.Predicate.{target_of}
use Rattle.cfg_expr.proofs.MatchedLanes.{Put}
use Rattle.cfg_expr.proofs.expr.matcher.answers_of.Given as goal

abbrev pub invariant-loop-row : goal.invariant-loop-row
invariant-loop-row g l =
    Put (λ row. g.T.TargetMatcher.answer row (target_of l.predicate)) l.rows l.left l.answers

abbrev pub decreases-loop-row : goal.decreases-loop-row
decreases-loop-row g l = length l.left
