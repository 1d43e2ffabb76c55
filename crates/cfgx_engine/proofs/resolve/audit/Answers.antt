-- Each verdict is that of the value on its target.
use Rattle.cfgx_engine.proofs.VerdictLemmas.{verdicts-told}
use Rattle.cfgx_engine.proofs.resolve.audit.Goals as goal

pub returns : goal.returns
returns g c =
    verdicts-told g.M.TargetMatcher.answer _ _ _ _ c.in_ok-verdicts.ensures.items
    (rw c.condition.ensures at c.in_ok-push_values.ensures)
