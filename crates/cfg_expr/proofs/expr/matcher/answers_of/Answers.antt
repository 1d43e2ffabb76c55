-- The answer that is put is that of the last row that is left. At the end no row is left.
use Rattle.cfg_expr.proofs.MatchedLanes.{Put-end, Put-more, Put-none}
use Rattle.cfg_expr.proofs.expr.matcher.answers_of.Goals as goal

pub loop-row-init : goal.loop-row-init
loop-row-init g c = rw c.new-answers.ensures (Put-none _ c.args.rows.now)

pub loop-row-preserved : goal.loop-row-preserved
loop-row-preserved g c =
    Put-more _ _ _ _ _ _ _ _ c.in-Some.ensures.cases.0 c.matches.ensures
    c.push_front-answers.ensures c.loop-row.invariant

pub returns : goal.returns
returns g c = Put-end _ _ _ _ c.in_default.ensures.cases c.loop-row.invariant
