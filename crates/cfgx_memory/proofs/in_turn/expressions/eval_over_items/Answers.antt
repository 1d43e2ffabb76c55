-- The answers of the slice come one after another.
use Rattle.std.proofs.Common.{◌∙◌, ap}
use Rattle.cfg_expr.proofs.evaluated.Copied.{copies-come}
use Rattle.cfgx_memory.proofs.in_turn.expressions.eval_over_items.Goals as goal

pub eval_over-requires-clause-given : goal.eval_over-requires-clause-given
eval_over-requires-clause-given g c =
    let runs = copies-come c.args.answers.now c.copied.result
    (ap (λ i. i.rest.now) c.copied.ensures.source ∙ c.iter.ensures.rest) in
    (c.args.answers.now, runs, c.requires)
