-- Each call returns the answer of the flags, and leaves them.
use Rattle.std.proofs.Common.{◌≡◌, ℕ, List, ◌∷◌, map, ap, refl, rules, Ok, Err}
use Rattle.std.proofs.{lemmas.Option.IfSome_then, lemmas.Result.err_from_is_err_and}
use Rattle.cfg_expr.proofs.Chains.{Calls-AllZip}
use Rattle.cfg_expr.specs.Predicate.{question_of}
use Rattle.cfgx_engine.specs.Facts.{IsAnswer, IsFlag, ReadsFacts, fact_text, failure_in}
use Rattle.cfgx_engine.specs.Facts.{texts_of}
use Rattle.cfgx_engine.specs.declared.resolve.facts.Otherwise.TheVariants as otherwise
use Rattle.cfgx_engine.specs.declared.resolve.facts.FactsError.{FactsError}
use Rattle.cfgx_engine.specs.declared.resolve.facts.FactsError.TheVariants as facts_error
use Rattle.cfgx_engine.specs.internal.Shows.{Fails}
use Rattle.cfgx_engine.specs.{Output.HasValueByFlags, Readings.GivesAll, Readings.ParsesAs}
use Rattle.cfgx_engine.specs.Request.{texts}
use Rattle.cfgx_engine.proofs.ReadingLemmas.{first_fails, later_fails}
use Rattle.cfgx_engine.proofs.FactLemmas.{GivesAll-faulty, IsAnswer-alike, trees_of}
use Rattle.cfgx_engine.proofs.OutputLemmas.{Fails-parse}
use Rattle.cfgx_engine.proofs.engine.flags.eval_with_flags.Goals as goal

-- the error of faulty flags is their first fault
Fails-flags : {A : Type 0} (flags : List (List ℕ)) (error : FactsError A)
    → ReadsFacts {A = A} IsFlag flags (Err error)
    → Fails {A = A} (λ fault. GivesAll ParsesAs (map fact_text flags) (Err fault))
    (failure_in {A = A} error)
Fails-flags flags (facts_error.Faulty index error) first = GivesAll-faulty flags index _ first
Fails-flags flags (facts_error.Memory error) first = tt

pub returns-in_err-condition : goal.returns-in_err-condition
returns-in_err-condition g c =
    let p = err_from_is_err_and c.from_residual.result c.from_residual.ensures.1 in
    let Valued = HasValueByFlags c.args.text.now (texts c.args.flags.now) in
    rw (p.1, p.2) (IfSome_then _ {Q = λ fault. Valued (Err fault)}
    (Fails-parse {A = g.row.A.Denot} c.args.text.now _ c.in_err-condition.ensures.answers)
    (λ fault reads. (Err fault, first_fails ParsesAs _ _ fault reads, refl)))

pub returns-in_err-facts : goal.returns-in_err-facts
returns-in_err-facts g c =
    let p = err_from_is_err_and c.from_residual-in_err-facts.result
    c.from_residual-in_err-facts.ensures.1 in
    let one = c.in_ok-condition.ensures.answers.2 in
    let flags = texts c.args.flags.now in
    let Valued = HasValueByFlags c.args.text.now flags in
    rw (p.1, p.2) (IfSome_then _ {Q = λ fault. Valued (Err fault)}
    (Fails-flags {A = g.row.A.Denot} flags c.in_err-facts.field-0.0 c.in_err-facts.ensures)
    (λ fault gives. (Err fault, later_fails ParsesAs _ one.tree _ fault one.reads gives, refl)))

pub returns : goal.returns
returns g c =
    let evaluates = rw c.in_ok-condition.ensures.answers.0 at c.in_ok-eval.ensures.value in
    let are = c.in_ok-facts.ensures in
    let flags = texts c.args.flags.now in
    let trees = trees_of flags are.each in
    let answered = Calls-AllZip _ (λ closure. closure.0.now ≡ c.in_ok-facts.facts)
    (IsAnswer (texts_of flags) otherwise.False)
    (λ before question given after holds asks.
    let met = asks.called.met in
    let answers : IsAnswer before.0.now otherwise.False (question_of asks.shown.now) given =
    search rules in (
      IsAnswer-alike c.in_ok-facts.facts (texts_of flags) otherwise.False question given are.alike
          (rw (← holds, ← asks.shows) answers),
      search rules,
    ))
    _ _ _ _ (refl {a = c.in_ok-facts.facts}) evaluates.calls in (
      Ok (evaluates.one.tree ∷ trees.0),
      (evaluates.one.reads, trees.1),
      (evaluates.answers, answered, ap Ok evaluates.value_is),
    )
