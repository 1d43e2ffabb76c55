-- What follows of a closure that no call changes.
use Rattle.std.proofs.lemmas.Result.{IfOk-weaker}
use Rattle.cfg_expr.proofs.Chains.{Evaluates-by}
use Rattle.cfg_expr.proofs.expr.condition.Condition.eval.Goals as goal

pub returns : goal.returns
returns g c = record {
  value = c.eval.ensures.value;
  by = IfOk-weaker c.eval.result _ _
      (λ value evaluates answer_to by. Evaluates-by evaluates answer_to by)
      c.eval.ensures.value;
  refused = c.eval.ensures.refused;
  short = c.eval.ensures.short;
}
