-- Each question so far has its answer.
use Rattle.std.{proofs.Common.◌≡◌, proofs.Common.◌++◌, proofs.Common.List, specs.List.AllZip}
use Rattle.cfgx_grammar.specs.Question.{Question}
use Rattle.cfgx_engine.specs.internal.InLanes.{InLanes}
use Rattle.cfgx_engine.proofs.resolve.auditing.ask_all.Given as goal

abbrev pub invariant-loop-predicate : goal.invariant-loop-predicate
invariant-loop-predicate g l = (front : List Question)
    × (front ++ l.predicate-iterator ≡ l.initial.predicate-iterator)
    × AllZip (InLanes (g.S.Batch.answers l.batch) (g.S.Batch.targets l.batch)) front l.answers.items
