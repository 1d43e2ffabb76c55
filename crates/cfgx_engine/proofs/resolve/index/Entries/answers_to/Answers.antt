-- The closure compares each code with that of the predicate.
use Rattle.std.proofs.Common.{◌∙◌, of_calls, rules}
use Rattle.std.proofs.lemmas.Fn.{always_returns_same}
use Rattle.cfg_expr.specs.Equality.{code_cmp, texts_code}
use Rattle.cfgx_engine.proofs.EntryLemmas.{told_found, told_missed}
use Rattle.cfgx_engine.proofs.resolve.index.Entries.answers_to.Goals as goal

pub returns-in-Ok : goal.returns-in-Ok
returns-in-Ok g c =
    let names = c.as_slice-names.result.now in
    let answers = c.as_slice-answers.result.now in
    let asked = texts_code c.args.asked.now in
    rw (
      ← c.self.view_is,
      ← c.as_slice-names.ensures.value,
      ← c.as_slice-answers.ensures.value,
    ) (λ i below.
    told_found names answers asked
    (rw (← c.as_slice-names.ensures.value, ← c.as_slice-answers.ensures.value)
    at c.self.invariant.0)
    (rw (← c.as_slice-names.ensures.value, ← c.as_slice-answers.ensures.value)
    at c.self.invariant.1) c.in-Ok.place c.index-answers-place.result c.in-Ok.ensures.bound
    (c.in-Ok.ensures.position (λ name. code_cmp (texts_code name) asked)
    (always_returns_same _ _ _ (λ a r f' called. search (rules, of_calls))))
    c.index-answers-place.is i)

pub returns-in-Err : goal.returns-in-Err
returns-in-Err g c =
    let names = c.as_slice-names.result.now in
    let answers = c.as_slice-answers.result.now in
    let asked = texts_code c.args.asked.now in
    rw (
      ← c.self.view_is,
      ← c.as_slice-names.ensures.value,
      ← c.as_slice-answers.ensures.value,
    ) (λ i below.
    c.bottom.ensures.lanes i below
    ∙ told_missed names answers asked
    (rw (← c.as_slice-names.ensures.value, ← c.as_slice-answers.ensures.value)
    at c.self.invariant.0)
    (rw (← c.as_slice-names.ensures.value, ← c.as_slice-answers.ensures.value)
    at c.self.invariant.1) c.in-Err.field-0 c.in-Err.ensures.bound
    (c.in-Err.ensures.position (λ name. code_cmp (texts_code name) asked)
    (always_returns_same _ _ _ (λ a r f' called. search (rules, of_calls)))) i)
