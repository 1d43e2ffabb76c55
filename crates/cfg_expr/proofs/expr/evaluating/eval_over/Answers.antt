-- The answers that come stand at the places of the text's one tree.
use Rattle.std.proofs.Common.{◌≡◌, ◌∙◌, List, Some, ap, arith, length, refl}
use Rattle.std.proofs.lemmas.List.{length-replicate}
use Rattle.std.specs.Iterator.{AlwaysYields}
use Rattle.cfgx_grammar.specs.{Tree.asked}
use Rattle.cfg_expr.specs.Fold.{tree_fold}
use Rattle.cfg_expr.specs.declared.expr.evaluating.Slot.{Slot}
use Rattle.cfg_expr.specs.declared.expr.evaluating.Slot.TheVariants as slot
use Rattle.cfg_expr.proofs.Rooms.{room}
use Rattle.cfg_expr.proofs.evaluated.Placed.{answers-many, text-inside, text-value}
use Rattle.cfg_expr.proofs.expr.evaluating.eval_over.Given.{Over}
use Rattle.cfg_expr.proofs.expr.evaluating.eval_over.Goals.{After-eval_nodes}
use Rattle.cfg_expr.proofs.expr.evaluating.eval_over.Goals as goal

pub put_each-requires-clause-inside : goal.put_each-requires-clause-inside
put_each-requires-clause-inside g c =
    text-inside _ c.nodes-nodes.ensures.nodes c.places.ensures
    (c.as_mut_slice-slots.ensures.value ∙ c.in_ok-push_empty_slots.ensures.slots)

pub eval_nodes-requires : goal.eval_nodes-requires
eval_nodes-requires g c = omega (
  arith,
  c.put_each.auto.slots,
  ap length (c.as_mut_slice-slots.ensures.value ∙ c.in_ok-push_empty_slots.ensures.slots),
  length-replicate {A = Slot g.row.T.Denot} (length c.nodes-nodes.result.now) slot.Empty,
)

-- the value is that of the tree over the answers that come
value : (g : Over) (c : After-eval_nodes g) → (given : List g.row.T.Denot)
    → AlwaysYields g.I.Iterator.next_gives (λ x. x) c.args.answers given
    → length given ≡ length (asked c.places.ensures.0.tree)
    → c.eval_nodes.result ≡ Some (tree_fold g.T.Logic c.places.ensures.0.tree given)
value g c given runs many = c.eval_nodes.ensures
    ∙ text-value _ c.nodes-nodes.ensures.nodes c.places.ensures
    (c.as_mut_slice-slots.ensures.value ∙ c.in_ok-push_empty_slots.ensures.slots) g.T.Logic
    c.places.ensures.0 given many (c.put_each.ensures given runs)

pub unwrap-requires : goal.unwrap-requires
unwrap-requires g c =
    let (given, runs, answers) = c.requires.given in
    rw (value g (goal.at.unwrap-requires g c).After-eval_nodes given runs
    (answers-many c.places.ensures.0 given answers)) refl

pub returns-clause-value : goal.returns-clause-value
returns-clause-value g c given runs answers = (
  c.places.ensures.0,
  cc (
    c.unwrap.ensures,
    value g (goal.at.returns-clause-value g c).After-eval_nodes given runs
        (answers-many c.places.ensures.0 given answers),
  ),
)

pub push_empty_slots-requires : goal.push_empty_slots-requires
push_empty_slots-requires g c = (
  room _ _ g.met.T.Logic.small,
  (c.new-slots.ensures.items, c.new-slots.ensures.capacity),
)

pub as_mut_slice-slots-requires : goal.as_mut_slice-slots-requires
as_mut_slice-slots-requires g c = room _ _ g.met.T.Logic.small
