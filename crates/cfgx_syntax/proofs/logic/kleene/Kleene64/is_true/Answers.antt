use Rattle.std.proofs.Common.{rules}
use Rattle.cfgx_syntax.proofs.logic.kleene.Kleene64.is_true.Goals as goal

pub returns : goal.returns
returns c = search rules
