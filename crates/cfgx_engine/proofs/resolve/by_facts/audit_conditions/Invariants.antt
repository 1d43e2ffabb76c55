use Rattle.std.proofs.Common.{take}
use Rattle.std.specs.List.{flat_map}
use Rattle.cfgx_engine.specs.{Audits.AreValues, Facts.IsAnswer}
use Rattle.cfgx_engine.proofs.resolve.by_facts.audit_conditions.Given as goal

-- these are the values of the conditions so far
abbrev pub invariant-loop-condition : goal.invariant-loop-condition
invariant-loop-condition g l = AreValues (λ facts. IsAnswer facts l.otherwise)
    (take l.condition-index l.conditions) (flat_map (λ batch. batch) l.batches) l.values.items
