-- The next question is answered. In the end none is left.
use Rattle.std.proofs.Common.{◌∙◌, ◌++◌, ◌∷◌, [], append_assoc, append-nil}
use Rattle.std.proofs.lemmas.Slice.Zip.{all_zipped_more}
use Rattle.cfg_expr.specs.Predicate.{question_of}
use Rattle.cfgx_c.proofs.answers.answers_to.Goals as goal

pub loop-predicate-preserved : goal.loop-predicate-preserved
loop-predicate-preserved c =
    let so_far = c.loop-predicate.invariant in (
      so_far.0 ++ question_of c.in-Some.predicate ∷ [],
      rw append_assoc (rw c.in-Some.ensures.steps at so_far.1),
      rw c.in_ok-push.ensures.items (all_zipped_more _ _ _ _ _ so_far.2 c.ask.ensures),
    )

pub returns : goal.returns
returns c =
    let asks = c.predicates-predicates.ensures.asked in
    let so_far = c.loop-predicate.invariant in
    let all = rw (c.in-None.ensures.steps.0, append-nil) at so_far.1 in (
      asks.0,
      rw (all ∙ c.into_iter-predicate-iterator.ensures.into_iter_gives ∙ asks.1) at so_far.2,
    )
