use Rattle.cfgx_c.proofs.CallLemmas.{ListsTokens-done, ListsTokens-same, no_utf8_tokens}
use Rattle.cfgx_c.proofs.laws.lists_tokens_in_one_way.Goals as goal

pub returns-clause-same : goal.returns-clause-same
returns-clause-same c = ListsTokens-same

pub returns-clause-done : goal.returns-clause-done
returns-clause-done c = ListsTokens-done

pub returns-clause-utf8 : goal.returns-clause-utf8
returns-clause-utf8 c = no_utf8_tokens
