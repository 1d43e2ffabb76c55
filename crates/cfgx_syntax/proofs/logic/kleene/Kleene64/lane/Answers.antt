use Rattle.std.proofs.{Common.arith, lemmas.Grind.common_steps}
use Rattle.cfgx_syntax.proofs.logic.kleene.Kleene64.lane.Goals as goal

pub returns-else-self-i-eq1-2 : goal.returns-else-self-i-eq1-2
returns-else-self-i-eq1-2 c = grind (arith, common_steps)
