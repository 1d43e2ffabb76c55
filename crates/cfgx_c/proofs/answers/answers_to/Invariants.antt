-- Each question so far has its answer.
use Rattle.std.{proofs.Common.◌≡◌, proofs.Common.◌++◌, proofs.Common.List, specs.List.AllZip}
use Rattle.cfgx_grammar.specs.Question.{Question}
use Rattle.cfgx_engine.specs.Facts.{IsAnswer}
use Rattle.cfgx_c.proofs.answers.answers_to.Given as goal

abbrev pub invariant-loop-predicate : goal.invariant-loop-predicate
invariant-loop-predicate l = (front : List Question)
    × (front ++ l.predicate-iterator ≡ l.initial.predicate-iterator)
    × AllZip (IsAnswer l.facts l.otherwise) front l.answers.items
