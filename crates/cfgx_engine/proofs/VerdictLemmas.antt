-- The verdict of a value.
use Rattle.std.proofs.Common.{◌≡◌, ◌∙◌, ℕ, Bool, true, false, List, [], Option, map}
use Rattle.std.proofs.Common.{ap, arith, sym}
use Rattle.std.specs.List.{AllZip}
use Rattle.std.proofs.{lemmas.List.length-map, lemmas.Slice.Zip.AllZip-map}
use Rattle.cfgx_grammar.specs.{Question.TargetQuestion, Tree.asked}
use Rattle.cfg_expr.specs.Filling.{three_valued}
use Rattle.cfg_expr.specs.Fold.{tree_fold}
use Rattle.cfg_expr.proofs.Exactness.{IsExact-fold}
use Rattle.cfg_expr.specs.Evaluation.{IsValueBy}
use Rattle.cfgx_engine.specs.Verdicts.{answer_by, verdict_of, IsVerdict}
use Rattle.cfgx_engine.specs.internal.InLanes.{AddsEach, TellsValue}
use Rattle.cfgx_engine.{specs.declared.resolve.Verdict.Verdict, proofs.AuditLemmas.AllZip-weaker}

-- the verdict of the condition's value over the answers
pub IsVerdict-by : (answer : TargetQuestion → Bool) (condition : List ℕ) (value : Option Bool)
    → IsValueBy three_valued condition (answer_by answer) value
    → IsVerdict answer condition (verdict_of value)
IsVerdict-by answer condition value by =
    let tree = by.one.tree in
    let answers = map (answer_by answer) (asked tree) in
    let exact = IsExact-fold tree answers (length-map (asked tree) (answer_by answer)) in
    let is = by.value_is in
    record {
      one = by.one;
      value_is = ap verdict_of is;
      yes = (
        λ yes. (exact.known true).0 (sym is ∙ grind arith),
        λ every. ap verdict_of (is ∙ (exact.known true).1 every),
      );
      no = (
        λ no. (exact.known false).0 (sym is ∙ grind arith),
        λ every. ap verdict_of (is ∙ (exact.known false).1 every),
      );
    }

-- an output that tells the value over a matcher's answers is the verdict
IsVerdict-told : (answer : TargetQuestion → Bool) (condition : List ℕ) (given : Verdict)
    → TellsValue (λ value verdict. verdict ≡ verdict_of value) condition
    (λ question found. found ≡ answer_by answer question) given
    → IsVerdict answer condition given
IsVerdict-told answer condition given told =
    let over = told.1 in
    let are = AllZip-map (answer_by answer) (asked over.one.tree) over.answers over.answered in
    rw told.2 (IsVerdict-by answer condition told.0 (record {
      one = over.one;
      value_is = over.value_is ∙ ap (tree_fold three_valued over.one.tree) are;
    }))

-- so what is added to nothing are the verdicts
pub verdicts-told : {M : Type 0} (answer : M → TargetQuestion → Bool) (condition : List ℕ)
    (targets : List M) (old new : List Verdict) → old ≡ []
    → AddsEach (λ target. TellsValue (λ value verdict. verdict ≡ verdict_of value) condition
    (λ question found. found ≡ answer_by (answer target) question)) targets old new
    → AllZip (λ target verdict. IsVerdict (answer target) condition verdict) targets new
verdicts-told answer condition targets old new none adds =
    rw (adds.1, none) (AllZip-weaker _ _ (λ target given. IsVerdict-told (answer target) condition
    given) targets adds.0 adds.2)
