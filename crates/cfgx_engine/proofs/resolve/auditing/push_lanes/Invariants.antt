-- The values in the lanes so far were added.
use Rattle.cfgx_engine.specs.internal.InLanes.{AddsEach, lane_values}
use Rattle.cfgx_engine.proofs.resolve.auditing.push_lanes.Given as goal

abbrev pub invariant-loop-i : goal.invariant-loop-i
invariant-loop-i g l = AddsEach g.V.From.from_gives (lane_values l.i l.value)
    l.initial.values.items l.values.items
