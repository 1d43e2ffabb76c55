use Rattle.cfgx_engine.proofs.OneOutput.{Prints-decided}
use Rattle.cfgx_engine.proofs.engine.laws.has_one_output.Goals as goal

pub returns : goal.returns
returns c request input one other this that = (Prints-decided request input one other this that).0
