-- The result for the rest of the text is that for the whole.
use Rattle.cfgx_parser.proofs.ReadTokens.{LeadsTo}
use Rattle.cfgx_parser.proofs.parser.Parser.read_all.Given as goal

abbrev pub invariant-loop-lexed : goal.invariant-loop-lexed
invariant-loop-lexed g l =
    LeadsTo {A = g.row.A.Denot} l.fn.lexer l.lexed-iterator l.initial.self l.last l.self
