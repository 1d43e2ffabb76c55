use Rattle.cfgx_grammar.proofs.alone.{spelling_alone}
use Rattle.cfg_expr.proofs.expr.spelling.spell.Goals as goal

pub returns-clause-alone : goal.returns-clause-alone
returns-clause-alone g c = λ well_formed. spelling_alone _ well_formed
