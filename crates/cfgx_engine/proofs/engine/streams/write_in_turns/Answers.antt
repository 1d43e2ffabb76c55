use Rattle.std.proofs.Common.{arith}
use Rattle.cfg_expr.proofs.Parts.{takes_more}
use Rattle.cfgx_engine.proofs.engine.streams.write_in_turns.Goals as goal

pub loop-left-preserved : goal.loop-left-preserved
loop-left-preserved g c = record {
  count = omega (arith, c.in-Some.ensures.count);
  taken = takes_more c.loop-left.invariant.taken c.in-Some.ensures.taken;
}
