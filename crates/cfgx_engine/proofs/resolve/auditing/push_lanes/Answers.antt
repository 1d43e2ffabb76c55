-- The value in the next lane is added.
use Rattle.std.proofs.Common.{◌≡◌, ◌+◌, ◌∷◌, [], arith, rules, suc}
use Rattle.cfgx_syntax.specs.Kleene.{lane}
use Rattle.cfgx_engine.specs.internal.InLanes.{lane_values}
use Rattle.cfgx_engine.proofs.AuditLemmas.{AddsEach-append, AddsEach-none}
use Rattle.cfgx_engine.proofs.resolve.auditing.push_lanes.Goals as goal

pub loop-i-init : goal.loop-i-init
loop-i-init g c = AddsEach-none g.V.From.from_gives c.args.values.now.items

pub loop-i-preserved : goal.loop-i-preserved
loop-i-preserved g c =
    let i = c.loop-i.i in
    let next : i + 1 ≡ suc i = omega arith in
    let Gives = g.V.From.from_gives in
    rw next (AddsEach-append Gives (lane_values i c.args.value) (lane i c.args.value ∷ []) _ _ _
    c.loop-i.invariant
    (c.from.result ∷ [], c.in_ok-push.ensures.items, (rw c.lane.ensures at c.from.ensures, tt)))

pub returns : goal.returns
returns g c = search rules
