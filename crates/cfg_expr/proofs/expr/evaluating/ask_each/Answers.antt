-- One call more.
use Rattle.std.proofs.Common.{[], refl, arith, ⊎_elim}
use Rattle.std.proofs.lemmas.List.{nil_from_length}
use Rattle.cfg_expr.specs.Asking.{Calls}
use Rattle.cfg_expr.proofs.evaluated.Asked.{Asking-inside, Asking-may, Asking-next, Asking-over}
use Rattle.cfg_expr.proofs.expr.evaluating.ask_each.Goals as goal

pub loop-place-init : goal.loop-place-init
loop-place-init g c =
    let whole = c.into_iter-place-iterator.ensures.into_iter_gives in
    let parts = c.zip-place-items.ensures in
    rw (whole, parts.first, parts.second, c.iter.ensures.rest) record {
      before = [];
      given = [];
      calls = Calls.none _;
      all = refl;
      as_many = c.requires.many;
      inside = c.requires.inside;
      puts = λ more. refl;
    }

pub ask-requires : goal.ask-requires
ask-requires g c = Asking-may c.loop-place.invariant c.in-Some.ensures.steps.1 c.requires.may

pub put_answer-requires : goal.put_answer-requires
put_answer-requires g c = Asking-inside c.loop-place.invariant c.in-Some.ensures.steps.0

pub loop-place-preserved : goal.loop-place-preserved
loop-place-preserved g c =
    Asking-next c.loop-place.invariant c.in-Some.ensures.steps.1 c.ask.ensures
    c.in-Some.ensures.steps.0 c.put_answer.ensures

pub returns : goal.returns
returns g c =
    let asking = c.loop-place.invariant in
    Asking-over asking (⊎_elim
    (λ places. nil_from_length _ (omega (arith, asking.as_many, places.1.0)))
    (λ rest. rest.1.0) c.in-None.ensures.steps)
