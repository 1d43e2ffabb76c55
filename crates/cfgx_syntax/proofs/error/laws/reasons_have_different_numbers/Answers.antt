use Rattle.cfgx_syntax.proofs.Numbers.{same_cause}
use Rattle.cfgx_syntax.proofs.error.laws.reasons_have_different_numbers.Goals as goal

pub returns : goal.returns
returns c = same_cause
