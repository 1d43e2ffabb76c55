use Rattle.cfgx_c.proofs.SpanLemmas.{HasSpanIn-tokens, HasSpanIn-tokens_bytes}
use Rattle.cfgx_c.proofs.SpanLemmas.{HasSpanInItem-bytes, HasSpanInItem-fact, HasSpanInItem-text}
use Rattle.cfgx_c.proofs.laws.faults_lie_in_their_items.Goals as goal

pub returns-clause-of_text : goal.returns-clause-of_text
returns-clause-of_text c = HasSpanInItem-text

pub returns-clause-of_bytes : goal.returns-clause-of_bytes
returns-clause-of_bytes c = HasSpanInItem-bytes

pub returns-clause-of_fact : goal.returns-clause-of_fact
returns-clause-of_fact c = HasSpanInItem-fact

pub returns-clause-of_tokens : goal.returns-clause-of_tokens
returns-clause-of_tokens c = HasSpanIn-tokens

pub returns-clause-of_tokens_bytes : goal.returns-clause-of_tokens_bytes
returns-clause-of_tokens_bytes c = HasSpanIn-tokens_bytes
