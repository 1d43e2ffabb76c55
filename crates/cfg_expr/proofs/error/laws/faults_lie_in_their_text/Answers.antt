use Rattle.cfgx_grammar.proofs.FoundFaults.{IsSound-first}
use Rattle.cfg_expr.proofs.error.laws.faults_lie_in_their_text.Goals as goal

pub returns : goal.returns
returns c text fault has = (IsSound-first text fault has).lies
