-- The answers that the closure gave stand at the places of the text's one tree.
use Rattle.std.proofs.Common.{◌≡◌, ◌∙◌, List, Some, ap, arith, length, refl, subst, sym}
use Rattle.std.proofs.lemmas.List.{length-replicate}
use Rattle.cfgx_grammar.{specs.Tree.asked, proofs.Answering.only_tree}
use Rattle.cfgx_parser.proofs.Places.{length-places}
use Rattle.cfg_expr.specs.Asking.{Calls, MayAskEach}
use Rattle.cfg_expr.specs.Fold.{tree_fold}
use Rattle.cfg_expr.specs.nodes.AnswerSlots.{with_answers}
use Rattle.cfg_expr.specs.declared.expr.evaluating.Slot.{Slot}
use Rattle.cfg_expr.specs.declared.expr.evaluating.Slot.TheVariants as slot
use Rattle.cfg_expr.proofs.{Chains.Calls-length, Rooms.room}
use Rattle.cfg_expr.proofs.evaluated.Placed.{text-inside, text-value}
use Rattle.cfg_expr.proofs.expr.evaluating.eval.Given.{Over}
use Rattle.cfg_expr.proofs.expr.evaluating.eval.Goals.{After-eval_nodes}
use Rattle.cfg_expr.proofs.expr.evaluating.eval.Goals as goal

pub ask_each-requires-clause-inside : goal.ask_each-requires-clause-inside
ask_each-requires-clause-inside g c =
    text-inside _ c.nodes-nodes.ensures.nodes c.places.ensures
    (c.as_mut_slice-slots.ensures.value ∙ c.in_ok-push_empty_slots.ensures.slots)

pub ask_each-requires-clause-many : goal.ask_each-requires-clause-many
ask_each-requires-clause-many g c =
    let found = c.places.ensures in
    let asks = c.predicates.ensures.asked in
    ap length found.1 ∙ length-places found.0.tree
    ∙ ap (λ tree. length (asked tree)) (only_tree asks.0 found.0.tree found.0.reads.has)
    ∙ sym (ap length asks.1)

pub ask_each-requires-clause-may : goal.ask_each-requires-clause-may
ask_each-requires-clause-may g c =
    let asks = c.predicates.ensures.asked in
    subst (MayAskEach g.EP.FnMut c.args.ep.now) (sym asks.1)
    (c.requires asks.0.tree asks.0.reads.has)

pub eval_nodes-requires : goal.eval_nodes-requires
eval_nodes-requires g c = omega (
  arith,
  c.ask_each.auto.slots,
  ap length (c.as_mut_slice-slots.ensures.value ∙ c.in_ok-push_empty_slots.ensures.slots),
  length-replicate {A = Slot g.row.T.Denot} (length c.nodes-nodes.result.now) slot.Empty,
)

-- the value is that of the tree over the answers of the closure
value : (g : Over) (c : After-eval_nodes g) → (answers : List g.row.T.Denot)
    → Calls g.EP.FnMut c.args.ep.now c.predicates.result answers c.ask_each.new.ep
    → c.ask_each.new.slots
    ≡ with_answers c.as_mut_slice-slots.result.now c.places.result.now answers
    → c.eval_nodes.result
    ≡ Some (tree_fold g.T.Logic c.predicates.ensures.asked.0.tree answers)
value g c answers calls put = c.eval_nodes.ensures
    ∙ text-value _ c.nodes-nodes.ensures.nodes c.places.ensures
    (c.as_mut_slice-slots.ensures.value ∙ c.in_ok-push_empty_slots.ensures.slots) g.T.Logic
    c.predicates.ensures.asked.0 answers
    (Calls-length g.EP.FnMut calls ∙ ap length c.predicates.ensures.asked.1) put

pub unwrap-requires : goal.unwrap-requires
unwrap-requires g c =
    let (answers, calls, put) = c.ask_each.ensures in
    rw (value g (goal.at.unwrap-requires g c).After-eval_nodes answers calls put) refl

pub returns-clause-value : goal.returns-clause-value
returns-clause-value g c =
    let asks = c.predicates.ensures.asked in
    let (answers, calls, put) = c.ask_each.ensures in
    record {
      one = asks.0;
      answers = answers;
      calls = subst (λ questions. Calls g.EP.FnMut c.args.ep.now questions answers
          c.ask_each.new.ep) asks.1 calls;
      value_is = cc (
        c.unwrap.ensures,
        value g (goal.at.returns-clause-value g c).After-eval_nodes answers calls put,
      );
    }

pub push_empty_slots-requires : goal.push_empty_slots-requires
push_empty_slots-requires g c = (
  room _ _ g.met.T.Logic.small,
  (c.new-slots.ensures.items, c.new-slots.ensures.capacity),
)

pub as_mut_slice-slots-requires : goal.as_mut_slice-slots-requires
as_mut_slice-slots-requires g c = room _ _ g.met.T.Logic.small
