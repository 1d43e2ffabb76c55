use Rattle.std.proofs.Common.{◌≡◌, ◌++◌, map}
use Rattle.cfg_expr.specs.Equality.{question_code}
use Rattle.cfgx_engine.proofs.resolve.named.NamedPredicates.add.Given as goal

-- what is left completes what was added
abbrev pub invariant-loop-predicate : goal.invariant-loop-predicate
invariant-loop-predicate g l =
    l.self ++ map question_code l.predicate-iterator
    ≡ l.initial.self ++ map question_code l.initial.predicate-iterator
