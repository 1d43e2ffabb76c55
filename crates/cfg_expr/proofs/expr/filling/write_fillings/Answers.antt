-- The pass and the places give the fillings of the text's tree.
use Rattle.std.proofs.Common.{◌∙◌, ap, length, true, false}
use Rattle.cfgx_grammar.{proofs.Answering.only_tree, specs.Tree.asked}
use Rattle.cfg_expr.specs.Filling.{filling_bytes}
use Rattle.cfg_expr.proofs.Exactness.{IsExact-fold}
use Rattle.cfg_expr.proofs.Parities.{text-filled, text-negated}
use Rattle.cfg_expr.proofs.evaluated.Placed.{answers-places}
use Rattle.cfg_expr.proofs.expr.filling.write_fillings.Goals as goal

pub write_filling-requires : goal.write_filling-requires
write_filling-requires g c = record {
  count = answers-places c.places-places.ensures c.args.answers.now c.requires.answers;
  inside = text-negated c.nodes.result.now c.nodes.ensures.nodes c.places-places.ensures
      (c.as_slice-negated.ensures ∙ c.in_ok-negated.ensures);
  room = c.requires.true_room;
}

pub write_filling-requires-2 : goal.write_filling-requires-2
write_filling-requires-2 g c = record {
  count = answers-places c.places-places.ensures c.args.answers.now c.requires.answers;
  inside = text-negated c.nodes.result.now c.nodes.ensures.nodes c.places-places.ensures
      (c.as_slice-negated.ensures ∙ c.in_ok-negated.ensures);
  room = c.requires.false_room;
}

pub returns-clause-fillings : goal.returns-clause-fillings
returns-clause-fillings g c =
    let one = c.places-places.ensures.0 in
    let is = text-filled c.nodes.result.now c.nodes.ensures.nodes c.places-places.ensures
    (c.as_slice-negated.ensures ∙ c.in_ok-negated.ensures) one c.args.answers.now in
    let given = c.requires.answers in
    let all = given.2 ∙ ap (λ tree. length (asked tree)) (only_tree one given.0 given.1) in
    record {
      one = one;
      true_is = c.write_filling.ensures ∙ ap filling_bytes (is true);
      false_is = c.write_filling-2.ensures ∙ ap filling_bytes (is false);
      filled = (IsExact-fold one.tree c.args.answers.now all).filled;
    }
