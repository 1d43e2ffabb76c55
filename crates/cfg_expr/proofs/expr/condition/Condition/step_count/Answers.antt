-- Each node has one step.
use Rattle.std.proofs.Common.{◌∙◌, ap, length, sym}
use Rattle.std.proofs.lemmas.List.{length-map}
use Rattle.cfg_expr.proofs.stepped.Numbers.{length-steps}
use Rattle.cfg_expr.proofs.expr.condition.Condition.step_count.Goals as goal

pub returns-clause-steps : goal.returns-clause-steps
returns-clause-steps c =
    let one = c.nodes.ensures.nodes in (
      one.0,
      sym (length-map c.nodes.result.now _) ∙ ap length one.1 ∙ sym (length-steps one.0.tree),
    )
