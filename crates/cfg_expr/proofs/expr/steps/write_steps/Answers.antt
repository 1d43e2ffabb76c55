-- The numbers are put at the places of the predicates of the text's one tree.
use Rattle.std.proofs.Common.{◌∙◌, ap, length, sym}
use Rattle.std.proofs.lemmas.List.{length-map}
use Rattle.cfgx_grammar.proofs.Answering.{only_tree}
use Rattle.cfg_expr.specs.Steps.{steps_of}
use Rattle.cfg_expr.proofs.evaluated.Placed.{text-within}
use Rattle.cfg_expr.proofs.stepped.Numbers.{length-steps, steps-written}
use Rattle.cfg_expr.proofs.expr.steps.write_steps.Goals as goal

pub write_nodes-requires : goal.write_nodes-requires
write_nodes-requires g c =
    let (one, are) = c.nodes.ensures.nodes in
    c.requires.1 ∙ ap (λ tree. length (steps_of tree))
    (only_tree one c.requires.0.tree c.requires.0.reads.has)
    ∙ length-steps one.tree ∙ sym (ap length are) ∙ length-map c.nodes.result.now _

pub write_numbers-requires : goal.write_numbers-requires
write_numbers-requires g c =
    text-within c.nodes.result.now c.nodes.ensures.nodes c.places.ensures
    (length c.write_nodes.new.buffer)
    (ap length c.write_nodes.ensures ∙ length-map c.nodes.result.now _)

pub returns : goal.returns
returns g c = (
  c.nodes.ensures.nodes.0,
  c.write_numbers.ensures ∙ rw c.write_nodes.ensures (steps-written g.T.FromStep.form
      c.nodes.result.now c.nodes.ensures.nodes c.places.ensures),
)
