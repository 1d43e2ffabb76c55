use Rattle.std.proofs.{Common.arith, lemmas.Grind.common_steps, lemmas.Grind.put_two}
use Rattle.cfgx_syntax.proofs.Repeated.{repeat_more}
use Rattle.cfgx_syntax.proofs.error.write_repeated.Goals as goal

-- the text is written once more
pub loop-time-preserved : goal.loop-time-preserved
loop-time-preserved g c plain = grind (arith, common_steps, repeat_more, put_two)
