-- Each call of the closure adds one to its first capture.
use Rattle.std.proofs.Common.{refl, rules}
use Rattle.cfg_expr.proofs.Chains.{Evaluates-count}
use Rattle.cfgx_examples.proofs.calling.counting.count_questions.Goals as goal

pub returns : goal.returns
returns c =
    Evaluates-count (λ closure. closure.0) _ c.in_ok-_value.ensures.value
    (λ before question answer after asks. let met = asks.called.met in search rules)
    refl (search rules)
