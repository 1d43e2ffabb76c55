use Rattle.std.proofs.Common.{rules}
use Rattle.cfgx_parser.proofs.parser.allows_count.Goals as goal

pub returns-in-All : goal.returns-in-All
returns-in-All c = search rules
