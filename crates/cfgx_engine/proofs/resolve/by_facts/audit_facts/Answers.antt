use Rattle.std.proofs.lemmas.{List.take_all, Option.IfSome_then}
use Rattle.cfgx_syntax.specs.Error.{failure_of}
use Rattle.cfgx_engine.specs.Facts.{FactTexts, IsAnswer}
use Rattle.cfgx_engine.proofs.ValueLemmas.{AreValues-none, FollowsConditions-here}
use Rattle.cfgx_engine.proofs.ValueLemmas.{IsFirstFault-here, values-more}
use Rattle.cfgx_engine.proofs.resolve.by_facts.audit_facts.Goals as goal

pub loop-index-init : goal.loop-index-init
loop-index-init g c = (
  tt,
  rw c.new-values.ensures.items
      (AreValues-none (λ (facts : FactTexts). IsAnswer facts c.args.otherwise) _),
)

-- the text is the first that is faulty
pub returns-in-Err-clause-err : goal.returns-in-Err-clause-err
returns-in-Err-clause-err g c =
    IfSome_then (failure_of c.in-Err.failure) c.in-Err.ensures.err (λ fault.
    IsFirstFault-here c.args.conditions.now c.loop-index.index _ fault c.loop-index-test.true
    c.loop-index.invariant.0)

pub returns-in-Err-clause-index : goal.returns-in-Err-clause-index
returns-in-Err-clause-index g c =
    FollowsConditions-here c.args.conditions.now c.loop-index.index c.loop-index-test.true
    c.loop-index.invariant.0

-- the values of one condition more
pub loop-index-preserved : goal.loop-index-preserved
loop-index-preserved g c =
    values-more (λ (facts : FactTexts). IsAnswer facts c.args.otherwise) _
    c.args.conditions.now c.loop-index.index _ _ _ c.loop-index-test.true c.loop-index.invariant
    c.in_default-push_text.ensures.condition c.in_default-push_text.ensures.values

-- no condition is left
pub returns-clause-ok : goal.returns-clause-ok
returns-clause-ok g c =
    rw (
      take_all _ _ c.loop-index-test.false,
      c.as_slice-batches.ensures.value,
      c.in-Ok.ensures,
    ) at c.loop-index.invariant.1

pub returns-clause-conditions : goal.returns-clause-conditions
returns-clause-conditions g c =
    rw (take_all _ _ c.loop-index-test.false) at c.loop-index.invariant.0
