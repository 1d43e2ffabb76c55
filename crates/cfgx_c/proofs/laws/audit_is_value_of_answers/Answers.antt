use Rattle.cfgx_c.proofs.CallLemmas.{HasValueByteOver-audited}
use Rattle.cfgx_c.proofs.laws.audit_is_value_of_answers.Goals as goal

pub returns : goal.returns
returns c = HasValueByteOver-audited
