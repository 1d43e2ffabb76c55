-- The facts are read first, and then the text.
use Rattle.std.proofs.lemmas.Result.{err_from_is_err_and}
use Rattle.cfgx_c.specs.Ends.{parts}
use Rattle.cfgx_c.proofs.AnswerLemmas.{AnswersOfFacts-read}
use Rattle.cfgx_c.proofs.RefusalLemmas.{Refuses-read, Refuses-text, all_facts}
use Rattle.cfgx_c.proofs.answers.find_answers.Goals as goal

-- a fact is faulty
pub returns-in_err-facts-2-clause-err : goal.returns-in_err-facts-2-clause-err
returns-in_err-facts-2-clause-err c =
    let p = err_from_is_err_and
    c.from_residual-in_err-facts-2.result c.from_residual-in_err-facts-2.ensures.1 in
    let facts = c.in_ok-facts.ensures.ok in
    let about = rw (c.as_slice.ensures.value, facts.0) at c.in_err-facts-2.ensures.err in
    rw (p.1, p.2) (Refuses-read _ _ _ facts.1 about)

-- the text cannot be read
pub returns-in_err-condition-clause-err : goal.returns-in_err-condition-clause-err
returns-in_err-condition-clause-err c =
    let p = err_from_is_err_and
    c.from_residual-in_err-condition.result c.from_residual-in_err-condition.ensures.1 in
    let facts = c.in_ok-facts.ensures.ok in
    let read = rw (c.as_slice.ensures.value, facts.0) at c.in_ok-facts-2.ensures.ok in
    rw (p.1, p.2) (Refuses-text _ c.args.text.now _ (all_facts _ facts.1 read.0)
    c.in_err-condition.ensures.err)

pub returns-clause-ok : goal.returns-clause-ok
returns-clause-ok c =
    let facts = c.in_ok-facts.ensures.ok in
    let read = rw (c.as_slice.ensures.value, facts.0) at c.in_ok-facts-2.ensures.ok in
    let (condition, offset, is_condition) = c.in_ok-condition.ensures.ok in (
      all_facts _ facts.1 read.0,
      is_condition,
      AnswersOfFacts-read c.args.text.now _ (parts c.args.fact_ends.now c.args.facts.now) _
          c.args.otherwise c.in_ok-answers_to.field-0.items condition read.1
          c.in_ok-answers_to.ensures,
    )
