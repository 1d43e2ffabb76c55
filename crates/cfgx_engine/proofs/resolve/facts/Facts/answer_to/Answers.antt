use Rattle.std.proofs.Common.{inl, inr, refl}
use Rattle.cfgx_engine.proofs.FactLemmas.{true_and_false}
use Rattle.cfgx_engine.proofs.NamedLemmas.{IsNamed-spelled}
use Rattle.cfgx_engine.proofs.resolve.facts.Facts.answer_to.Goals as goal

pub returns-then-has : goal.returns-then-has
returns-then-has g c question otherwise of unnamed =
    let named_true = IsNamed-spelled _ question c.self.invariant.0.0 in
    let has_true = rw of at c.has.ensures in
    rw (← c.self.view_is) (inl (named_true.1 (has_true.0 c.if-has.true), refl))

pub returns-then-has-2 : goal.returns-then-has-2
returns-then-has-2 g c question otherwise of unnamed =
    let named_true = IsNamed-spelled _ question c.self.invariant.0.0 in
    let named_unknown = IsNamed-spelled _ question c.self.invariant.1.0 in
    let has_true = rw of at c.has.ensures in
    let has_unknown = rw of at c.has-else-has.ensures in
    rw (← c.self.view_is) (inr (inl (
      λ named. true_and_false _ (has_true.1 (named_true.0 named)) c.if-has.false,
      named_unknown.1 (has_unknown.0 c.if-has-2.true),
      refl,
    )))

pub returns-else-has-2 : goal.returns-else-has-2
returns-else-has-2 g c question otherwise of unnamed =
    let named_true = IsNamed-spelled _ question c.self.invariant.0.0 in
    let named_unknown = IsNamed-spelled _ question c.self.invariant.1.0 in
    let has_true = rw of at c.has.ensures in
    let has_unknown = rw of at c.has-else-has.ensures in
    rw (← c.self.view_is) (inr (inr (
      λ named. true_and_false _ (has_true.1 (named_true.0 named)) c.if-has.false,
      λ named. true_and_false _ (has_unknown.1 (named_unknown.0 named)) c.if-has-2.false,
      unnamed,
    )))
