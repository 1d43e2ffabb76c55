-- The value on each matcher so far was added.
use Rattle.std.proofs.Common.{◌≡◌, ◌++◌, List, length}
use Rattle.cfgx_engine.specs.Verdicts.{answer_by}
use Rattle.cfgx_engine.specs.internal.InLanes.{AddsEach, TellsValue}
use Rattle.cfgx_engine.proofs.resolve.auditing.push_values.Given as goal

abbrev pub invariant-loop-left : goal.invariant-loop-left
invariant-loop-left g l = (passed : List g.row.M.Denot) × (passed ++ l.left ≡ l.matchers)
    × AddsEach
    (λ matcher. TellsValue g.V.From.from_gives l.condition
    (λ question answer. answer ≡ answer_by (g.M.TargetMatcher.answer matcher) question))
    passed l.initial.values.items l.values.items

abbrev pub decreases-loop-left : goal.decreases-loop-left
decreases-loop-left g l = length l.left
