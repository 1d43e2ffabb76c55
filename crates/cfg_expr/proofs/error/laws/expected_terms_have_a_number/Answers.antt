use Rattle.cfgx_grammar.proofs.FoundFaults.{IsSound-first}
use Rattle.cfg_expr.proofs.error.laws.expected_terms_have_a_number.Goals as goal

pub returns : goal.returns
returns c text fault has = (IsSound-first text fault has).numbered
