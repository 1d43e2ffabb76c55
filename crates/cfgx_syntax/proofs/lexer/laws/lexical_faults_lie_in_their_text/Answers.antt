use Rattle.cfgx_syntax.proofs.ItemSpans.{LiesIn-lexical}
use Rattle.cfgx_syntax.proofs.lexer.laws.lexical_faults_lie_in_their_text.Goals as goal

pub returns : goal.returns
returns c = LiesIn-lexical
