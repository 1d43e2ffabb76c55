-- The values on the next batch are added. In the end no batch is left.
use Rattle.std.proofs.Common.{◌≡◌, Bool, Option}
use Rattle.std.proofs.lemmas.List.{take_all}
use Rattle.cfgx_engine.specs.Facts.{FactTexts, IsAnswer}
use Rattle.cfgx_engine.specs.internal.InLanes.{TellsValue}
use Rattle.cfgx_engine.proofs.AuditLemmas.{AddsEach-none, AddsEach-batch}
use Rattle.cfgx_engine.proofs.resolve.by_facts.push_batches.Goals as goal

pub loop-indexed-init : goal.loop-indexed-init
loop-indexed-init g c =
    AddsEach-none (λ (facts : FactTexts). TellsValue (λ (value output : Option Bool).
    output ≡ value) c.args.condition.now (IsAnswer facts c.args.otherwise)) c.args.values.now.items

pub loop-indexed-preserved : goal.loop-indexed-preserved
loop-indexed-preserved g c =
    AddsEach-batch _ c.args.batches.now c.loop-indexed.indexed-index c.indexed-item.result
    _ _ _ c.loop-indexed-test.true c.loop-indexed.invariant
    (rw c.indexed-item.is at c.in_ok-push_batch.ensures)

pub returns : goal.returns
returns g c = rw (take_all _ _ c.loop-indexed-test.false) at c.loop-indexed.invariant
