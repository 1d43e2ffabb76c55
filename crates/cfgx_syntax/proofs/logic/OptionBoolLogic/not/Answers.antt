use Rattle.std.proofs.Common.{rules}
use Rattle.cfgx_syntax.proofs.logic.OptionBoolLogic.not.Goals as goal

pub returns : goal.returns
returns c = search rules
