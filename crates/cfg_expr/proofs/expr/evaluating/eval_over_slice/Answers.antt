-- The answers of the slice come one after another.
use Rattle.std.proofs.Common.{◌∙◌, ap}
use Rattle.std.proofs.lemmas.Result.{IfOk-weaker}
use Rattle.cfg_expr.proofs.evaluated.Copied.{copies-come}
use Rattle.cfg_expr.proofs.expr.evaluating.eval_over_slice.Goals as goal

pub eval_over-requires-clause-given : goal.eval_over-requires-clause-given
eval_over-requires-clause-given g c =
    let runs = copies-come c.args.answers.now c.copied.result
    (ap (λ i. i.rest.now) c.copied.ensures.source ∙ c.iter.ensures.rest) in
    (c.args.answers.now, runs, c.requires)

pub returns-clause-value : goal.returns-clause-value
returns-clause-value g c =
    let runs = copies-come c.args.answers.now c.copied.result
    (ap (λ i. i.rest.now) c.copied.ensures.source ∙ c.iter.ensures.rest) in
    IfOk-weaker c.eval_over.result _ _ (λ value found. found c.args.answers.now runs c.requires)
    c.eval_over.ensures.value
