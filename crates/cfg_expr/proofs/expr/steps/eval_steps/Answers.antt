-- The value that is left alone is that of the steps, and otherwise they have none.
use Rattle.std.proofs.Common.{◌∙◌, sym}
use Rattle.cfg_expr.proofs.stepped.Forests.{HasValue-read, read-HasValue}
use Rattle.cfg_expr.proofs.expr.steps.eval_steps.Goals as goal

pub returns-in-Some-clause-value : goal.returns-in-Some-clause-value
returns-in-Some-clause-value g c = HasValue-read g.T.Logic c.args.answers.now c.args.steps.now
    c.in-Some.value (sym c.read_steps.ensures ∙ c.in-Some.is)

pub returns-clause-error : goal.returns-clause-error
returns-clause-error g c = (
  sym c.if-count_asks-answers.false ∙ c.count_asks.ensures,
  λ value has.
      let found = read-HasValue g.T.Logic c.args.answers.now c.args.steps.now value has in
      absurd (cc (found, c.read_steps.ensures, c.in-None.is)),
)
