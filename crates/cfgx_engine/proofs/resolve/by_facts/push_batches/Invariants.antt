-- The value on each target of the batches so far was added.
use Rattle.std.proofs.Common.{◌≡◌, take}
use Rattle.std.specs.List.{flat_map}
use Rattle.cfgx_engine.specs.Facts.{IsAnswer}
use Rattle.cfgx_engine.specs.internal.InLanes.{AddsEach, TellsValue}
use Rattle.cfgx_engine.proofs.resolve.by_facts.push_batches.Given as goal

abbrev pub invariant-loop-indexed : goal.invariant-loop-indexed
invariant-loop-indexed g l = AddsEach
    (λ facts. TellsValue (λ value output. output ≡ value) l.condition
    (IsAnswer facts l.otherwise))
    (flat_map (λ batch. batch) (take l.indexed-index l.batches)) l.initial.values.items
    l.values.items
