-- facts that name nothing answer as `unnamed_answer` says
use Rattle.std.proofs.Common.{◌≡◌, List, [], ◌∷◌, inr, arith}
use Rattle.std.specs.List.{Contains}
use Rattle.cfg_expr.specs.Predicate.{question_of}
use Rattle.cfg_expr.specs.Equality.{Code}
use Rattle.cfgx_engine.proofs.NamedLemmas.{IsNamed-spelled}
use Rattle.cfgx_engine.proofs.resolve.facts.Facts.answer.Goals as goal

none_in : (names : List Code) (name : Code) → names ≡ [] → ¬ Contains names name
none_in [] name is (k, below, at) = omega (arith, below)
none_in (first ∷ others) name is named = absurd cc

pub returns-then-is_empty-2 : goal.returns-then-is_empty-2
returns-then-is_empty-2 g c =
    let question = question_of c.args.predicate.now in
    let named_true = IsNamed-spelled _ question c.self.invariant.0.0 in
    let named_unknown = IsNamed-spelled _ question c.self.invariant.1.0 in
    let no_true = c.is_empty.ensures.0 c.if-is_empty.true in
    let no_unknown = c.is_empty-then-is_empty.ensures.0 c.if-is_empty-2.true in
    rw (← c.self.view_is) (inr (inr (
      λ named. none_in _ _ no_true (named_true.0 named),
      λ named. none_in _ _ no_unknown (named_unknown.0 named),
      c.unnamed_answer-unnamed.ensures,
    )))

pub returns : goal.returns
returns g c = c.answer_to.ensures _ _ c.asked_texts.ensures c.unnamed_answer-unnamed.ensures
