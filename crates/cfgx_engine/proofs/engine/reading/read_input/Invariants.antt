-- No call has failed, and the first `filled` bytes were read. The buffer has at most one byte more
-- than the limit.
use Rattle.std.{proofs.Common.{◌+◌, ◌-◌, ◌≡◌, ◌≤◌, length, take}, specs.Io.KnownBytes.Consumes}
use Rattle.cfgx_engine.specs.Input.{input_limit}
use Rattle.cfgx_engine.proofs.engine.reading.read_input.Given as goal

abbrev pub invariant-loop-filled : goal.invariant-loop-filled
invariant-loop-filled g l = record {
  count : g.R.Source.failures l.source ≡ g.R.Source.failures l.fn.source;
  read : Consumes (g.R.Source.unread l.fn.source) (g.R.Source.unread l.source)
      (take l.filled l.bytes.items);
  inside : l.filled ≤ length l.bytes.items;
  within : length l.bytes.items ≤ input_limit + 1;
}

abbrev pub decreases-loop-filled : goal.decreases-loop-filled
decreases-loop-filled g l = input_limit + 1 - l.filled
