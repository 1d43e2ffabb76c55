use Rattle.std.proofs.lemmas.List.{take_all}
use Rattle.cfgx_engine.specs.Facts.{FactTexts, IsAnswer}
use Rattle.cfgx_engine.proofs.ValueLemmas.{AreValues-next, AreValues-none}
use Rattle.cfgx_engine.proofs.resolve.by_facts.audit_conditions.Goals as goal

pub loop-condition-init : goal.loop-condition-init
loop-condition-init g c = rw c.new-values.ensures.items
    (AreValues-none (λ (facts : FactTexts). IsAnswer facts c.args.otherwise) _)

-- the values of one condition more
pub loop-condition-preserved : goal.loop-condition-preserved
loop-condition-preserved g c =
    AreValues-next (λ (facts : FactTexts). IsAnswer facts c.args.otherwise) _
    c.args.conditions.now c.loop-condition.condition-index c.condition-item.result _ _
    c.loop-condition-test.true c.loop-condition.invariant
    (rw c.condition-item.is at c.in_ok-push_batches.ensures)

-- no condition is left
pub returns : goal.returns
returns g c = rw (
  take_all _ _ c.loop-condition-test.false,
  c.as_slice-batches.ensures.value,
  c.in_ok-batches.ensures,
) at c.loop-condition.invariant
