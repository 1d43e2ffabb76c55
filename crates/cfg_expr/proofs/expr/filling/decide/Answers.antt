-- The pass and the places give the fillings of the text's tree.
use Rattle.std.proofs.Common.{◌∙◌, sym, true, false}
use Rattle.std.proofs.lemmas.Result.{on_ok_weaker}
use Rattle.cfg_expr.proofs.Parities.{IsDecision-unknown, text-filled, text-negated}
use Rattle.cfg_expr.proofs.evaluated.Placed.{answers-places}
use Rattle.cfg_expr.proofs.expr.filling.decide.Goals as goal

pub set_unknown-requires : goal.set_unknown-requires
set_unknown-requires g c = record {
  count = answers-places c.places-places.ensures c.args.answers.now c.requires;
  inside = text-negated c.nodes.result.now c.nodes.ensures.nodes c.places-places.ensures
      (c.as_slice.ensures ∙ c.in_ok-negated.ensures);
}

pub returns-in-Some-clause-decision : goal.returns-in-Some-clause-decision
returns-in-Some-clause-decision g c =
    let value = c.in_ok-value.ensures.value in (value.0, sym value.1 ∙ c.in-Some.is)

pub returns-clause-decision : goal.returns-clause-decision
returns-clause-decision g c =
    let one = c.in_ok-value.ensures.value.0 in
    let is = text-filled c.nodes.result.now c.nodes.ensures.nodes c.places-places.ensures
    (c.as_slice.ensures ∙ c.in_ok-negated.ensures) one c.args.answers.now in
    let unknown = sym c.in_ok-value.ensures.value.1 ∙ c.in_default.is in
    on_ok_weaker c.set_unknown.result
    (λ found. (
      one,
      IsDecision-unknown one.tree c.args.answers.now c.set_unknown.new.decision
          unknown (is true) (is false) found,
    )) c.set_unknown.ensures.unknown
