-- The text has one tree, whose value is kept by each lane.
use Rattle.std.proofs.{Common.◌∙◌, Common.ap, lemmas.Result.IfOk-weaker}
use Rattle.cfgx_syntax.specs.Kleene.{lane}
use Rattle.cfg_expr.proofs.MappedValues.{IsByLane-fold}
use Rattle.cfg_expr.proofs.expr.condition.Condition.eval_lanes.Goals as goal

pub returns-clause-lanes : goal.returns-clause-lanes
returns-clause-lanes g c =
    let one = c.eval_over_slice.ensures.one in
    (one, λ given disjoint many. IsByLane-fold one.tree given disjoint)

pub returns-clause-value : goal.returns-clause-value
returns-clause-value g c =
    IfOk-weaker c.eval_over_slice.result _ _
    (λ value found. (
      found.0,
      found.1,
      λ i below. ap (lane i) found.1
          ∙ IsByLane-fold found.0.tree c.args.answers.now c.are_disjoint.ensures.disjoint i below,
    ))
    c.eval_over_slice.ensures.value
