-- The facts are read first, and then the texts.
use Rattle.std.proofs.Common.{◌≡◌, ◌∙◌, ap, length, sym}
use Rattle.std.proofs.lemmas.List.{length-map}
use Rattle.std.proofs.lemmas.Result.{err_from_is_err_and}
use Rattle.cfgx_c.specs.{Ends.parts, internal.Refusals.views}
use Rattle.cfgx_c.proofs.AnswerLemmas.{ValuesBy-read}
use Rattle.cfgx_c.proofs.RefusalLemmas.{Refuses-bytes, Refuses-read, Refuses-texts, all_conditions}
use Rattle.cfgx_c.proofs.RefusalLemmas.{all_facts, length-parts, text_refused}
use Rattle.cfgx_c.proofs.audit.find_values.Goals as goal

pub read_targets-requires : goal.read_targets-requires
read_targets-requires c =
    let facts = c.in_ok-facts.facts.items in
    let long : length facts ≡ length c.args.fact_ends.now =
    sym (length-map facts (λ fact. fact.now)) ∙ ap length c.in_ok-facts.ensures.ok.0
    ∙ length-parts 0 c.args.fact_ends.now c.args.facts.now in
    rw (c.as_slice.ensures.value, long) c.requires.of_targets

-- a fact is faulty
pub returns-in_err-targets-clause-err : goal.returns-in_err-targets-clause-err
returns-in_err-targets-clause-err c =
    let p = err_from_is_err_and
    c.from_residual-in_err-targets.result c.from_residual-in_err-targets.ensures.1 in
    let facts = c.in_ok-facts.ensures.ok in
    let about = rw (c.as_slice.ensures.value, facts.0) at c.in_err-targets.ensures.err in
    rw (p.1, p.2) (Refuses-read _ _ _ facts.1 about)

-- a text is not UTF-8
pub returns-in_err-conditions-clause-err : goal.returns-in_err-conditions-clause-err
returns-in_err-conditions-clause-err c =
    let p = err_from_is_err_and
    c.from_residual-in_err-conditions.result c.from_residual-in_err-conditions.ensures.1 in
    let facts = c.in_ok-facts.ensures.ok in
    let read = rw (c.as_slice.ensures.value, facts.0) at c.in_ok-targets.ensures.ok in
    rw (p.1, p.2) (Refuses-bytes _ _ _ (all_facts _ facts.1 read.0)
    c.in_err-conditions.ensures.err)

-- a text is faulty
pub returns-clause-err : goal.returns-clause-err
returns-clause-err c =
    let facts = c.in_ok-facts.ensures.ok in
    let conditions = c.in_ok-conditions.ensures.ok in
    let read = rw (c.as_slice.ensures.value, facts.0) at c.in_ok-targets.ensures.ok in
    let slice = c.as_slice-conditions.result.now in
    let is = ap views c.as_slice-conditions.ensures.value ∙ conditions.0 in
    rw (c.text_refusal.ensures, c.strip-offset.ensures.offset) (Refuses-texts
    (parts c.args.fact_ends.now c.args.facts.now)
    (parts c.args.condition_ends.now c.args.conditions.now) _ (all_facts _ facts.1 read.0)
    conditions.1 (rw (← is) (text_refused slice c.in-Err.error.index _ c.in-Err.error.failure
    c.in-Err.ensures.err)))

pub returns-in-Ok-clause-ok : goal.returns-in-Ok-clause-ok
returns-in-Ok-clause-ok c =
    let facts = c.in_ok-facts.ensures.ok in
    let texts = c.in_ok-conditions.ensures.ok in
    let read = rw (c.as_slice.ensures.value, facts.0) at c.in_ok-targets.ensures.ok in
    let one = rw (c.as_slice-conditions.ensures.value, texts.0) at c.in-Ok.ensures.conditions in
    let values = rw (c.as_slice-conditions.ensures.value, c.as_slice-2.ensures.value, texts.0) at
    c.in-Ok.ensures.ok in (
      all_facts _ facts.1 read.0,
      all_conditions _ texts.1 one,
      ValuesBy-read (parts c.args.condition_ends.now c.args.conditions.now) _
          c.in_ok-targets.targets.items c.args.otherwise c.in-Ok.values.items read.1 values,
    )
