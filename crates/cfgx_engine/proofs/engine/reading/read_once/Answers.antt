-- An edit that takes a failed read for the end is refused at the first two. `search` does not close
-- the last two.
use Rattle.std.proofs.{Common.{arith, rules}, lemmas.Grind.common_steps}
use Rattle.cfgx_engine.proofs.engine.reading.read_once.Goals as goal

pub returns-clause-count : goal.returns-clause-count
returns-clause-count g c = search rules

pub returns-clause-came : goal.returns-clause-came
returns-clause-came g c = grind (arith, common_steps)

pub returns-clause-front : goal.returns-clause-front
returns-clause-front g c = grind (arith, common_steps)
