use Rattle.cfgx_c.proofs.PredicateSpans.{HasSpansIn-listed}
use Rattle.cfgx_c.proofs.laws.predicates_lie_in_their_text.Goals as goal

pub returns : goal.returns
returns c = HasSpansIn-listed
