use Rattle.cfgx_c.proofs.CallLemmas.{Applies-counted, Applies-same, Applies-some}
use Rattle.cfgx_c.proofs.CallLemmas.{HaveNoCValue-counted}
use Rattle.cfgx_c.proofs.laws.applies_in_one_way.Goals as goal

pub returns-clause-same : goal.returns-clause-same
returns-clause-same c = Applies-same

pub returns-clause-not_without : goal.returns-clause-not_without
returns-clause-not_without c = Applies-some

pub returns-clause-not_miscounted : goal.returns-clause-not_miscounted
returns-clause-not_miscounted c = Applies-counted

pub returns-clause-either : goal.returns-clause-either
returns-clause-either c = HaveNoCValue-counted
