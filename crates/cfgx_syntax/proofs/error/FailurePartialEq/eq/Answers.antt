use Rattle.cfgx_syntax.proofs.Equalities.{failures-parse}
use Rattle.cfgx_syntax.proofs.error.FailurePartialEq.eq.Goals as goal

pub returns-in-Parse-Parse-clause-same : goal.returns-in-Parse-Parse-clause-same
returns-in-Parse-Parse-clause-same g c =
    failures-parse _ _ _ _ _ c.in-Parse-Parse.is-0 c.in-Parse-Parse.is-1 c.eq.ensures.same
