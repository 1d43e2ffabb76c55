use Rattle.cfgx_c.proofs.CallLemmas.{Applies-compiled}
use Rattle.cfgx_c.proofs.laws.apply_after_compile_is_value.Goals as goal

pub returns : goal.returns
returns c = Applies-compiled
