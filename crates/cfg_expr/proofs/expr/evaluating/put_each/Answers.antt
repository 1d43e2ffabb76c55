-- One answer more.
use Rattle.std.proofs.Common.{◌∙◌, refl, ⊎_elim, inl, inr, sym}
use Rattle.std.proofs.lemmas.List.{nil_from_length}
use Rattle.cfg_expr.proofs.evaluated.Asked.{first-comes, inside-kept, nothing-comes}
use Rattle.cfg_expr.proofs.expr.evaluating.put_each.Goals as goal

pub loop-place-init : goal.loop-place-init
loop-place-init g c =
    let whole = c.into_iter-place-iterator.ensures.into_iter_gives in
    let parts = c.zip-place-items.ensures in
    rw (whole, parts.first, parts.second, c.iter.ensures.rest)
    (c.requires.inside, λ given runs. (given, runs, refl))

pub put_answer-requires : goal.put_answer-requires
put_answer-requires g c = (rw c.in-Some.ensures.steps.0 at c.loop-place.invariant.0).0

pub loop-place-preserved : goal.loop-place-preserved
loop-place-preserved g c =
    let steps = c.in-Some.ensures.steps in
    let put = c.put_answer.ensures in (
      inside-kept c.loop-place.slots _ _ _ _ put (rw steps.0 at c.loop-place.invariant.0).1,
      λ given runs.
          let (left, more, puts) = c.loop-place.invariant.1 given runs in
          let (rest, is, others) = first-comes g.I.Iterator.next_gives _ _ _ steps.1 left more in
          (rest, others, rw put (rw (steps.0, is) at puts)),
    )

pub returns : goal.returns
returns g c given runs =
    let (left, more, puts) = c.loop-place.invariant.1 given runs in
    sym (nothing-comes g.I.Iterator.next_gives _ _ _ left more
    (⊎_elim (λ places. inl (nil_from_length _ places.1.0)) inr c.in-None.ensures.steps)) ∙ puts
