use Rattle.cfgx_syntax.proofs.ItemSpans.{LieInOrder-items}
use Rattle.cfgx_syntax.proofs.lexer.laws.tokens_lie_in_order.Goals as goal

pub returns : goal.returns
returns c text items ending = LieInOrder-items text 0 items ending
