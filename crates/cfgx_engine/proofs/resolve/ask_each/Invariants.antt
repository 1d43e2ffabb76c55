use Rattle.std.proofs.Common.{◌≡◌, ◌++◌, map}
use Rattle.cfgx_engine.specs.Verdicts.{answer_by}
use Rattle.cfgx_engine.proofs.resolve.ask_each.Given as goal

-- the answers so far, and then the answers to the predicates to come, are all answers
abbrev pub invariant-loop-predicate : goal.invariant-loop-predicate
invariant-loop-predicate g l = let answer_to = answer_by (g.M.TargetMatcher.answer l.matcher) in
    l.answers.items ++ map answer_to l.predicate-iterator ≡ map answer_to l.fn.predicates
