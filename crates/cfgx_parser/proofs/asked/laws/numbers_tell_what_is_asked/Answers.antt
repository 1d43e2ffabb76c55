use Rattle.cfgx_parser.proofs.AskedNumbers.{same_asked}
use Rattle.cfgx_parser.proofs.asked.laws.numbers_tell_what_is_asked.Goals as goal

pub returns : goal.returns
returns c = same_asked
