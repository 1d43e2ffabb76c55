use Rattle.cfgx_syntax.proofs.Numbers.{named_cause}
use Rattle.cfgx_syntax.proofs.error.laws.numbers_name_the_reason.Goals as goal

pub returns : goal.returns
returns c = named_cause
