-- the tokens that were read are the first ones of the text
use Rattle.cfgx_parser.proofs.FewTokens.{Reads}
use Rattle.cfgx_parser.proofs.unaskable.few_tokens.Given as goal

abbrev pub invariant-loop-lexed : goal.invariant-loop-lexed
invariant-loop-lexed g l = Reads l.fn.lexer l.lexed-iterator l.tokens.items
