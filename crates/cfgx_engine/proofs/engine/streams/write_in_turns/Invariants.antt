use Rattle.std.proofs.Common.{◌≡◌, length}
use Rattle.cfgx_engine.specs.Streams.{Takes}
use Rattle.cfgx_engine.proofs.engine.streams.write_in_turns.Given as goal

-- no call has failed, and the bytes before `left` were taken
abbrev pub invariant-loop-left : goal.invariant-loop-left
invariant-loop-left g l = record {
  count : g.W.Sink.failures l.sink ≡ g.W.Sink.failures l.fn.sink;
  taken : Takes (g.W.Sink.written l.fn.sink) (g.W.Sink.written l.sink) l.bytes l.left;
}

abbrev pub decreases-loop-left : goal.decreases-loop-left
decreases-loop-left g l = length l.left
