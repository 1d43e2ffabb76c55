use Rattle.cfgx_syntax.proofs.Numbers.{same_list}
use Rattle.cfgx_syntax.proofs.error.laws.lists_have_different_numbers.Goals as goal

pub returns : goal.returns
returns c = same_list
