-- The answer was moved up from lane 0 to this one.
use Rattle.cfgx_syntax.specs.Kleene.{EachLane}
use Rattle.cfgx_engine.specs.internal.Index.{one_lane}
use Rattle.cfgx_engine.proofs.resolve.index.one_lane.Given as goal

abbrev pub invariant-loop : goal.invariant-loop
invariant-loop l = EachLane l.answers (one_lane l.counter l.fn.answer)
