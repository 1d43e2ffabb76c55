use Rattle.std.proofs.Common.{map, take}
use Rattle.std.specs.List.{AllByRecursion, flat_map}
use Rattle.cfgx_syntax.specs.Stripping.{strip}
use Rattle.cfgx_grammar.specs.Answer.{HasOneTree}
use Rattle.cfgx_engine.specs.{Audits.AreValues, Facts.IsAnswer, Request.texts}
use Rattle.cfgx_engine.proofs.resolve.by_facts.audit_facts.Given as goal

-- the texts so far are conditions, and these are their values
abbrev pub invariant-loop-index : goal.invariant-loop-index
invariant-loop-index g l = let passed = texts (take l.index l.conditions) in
    AllByRecursion (λ text. HasOneTree (strip text)) passed
    × AreValues (λ facts. IsAnswer facts l.otherwise) (map strip passed)
    (flat_map (λ batch. batch) l.batches) l.values.items
