-- The tokens so far were written, and as many are left as there is room.
use Rattle.cfgx_c.proofs.TokenLemmas.{Writes}
use Rattle.cfgx_c.proofs.tokens.write_tokens.Given as goal

abbrev pub invariant-loop-i : goal.invariant-loop-i
invariant-loop-i l = Writes l.stripped.text.now l.stripped.offset l.lexer l.i l.initial.buffer
    l.buffer
