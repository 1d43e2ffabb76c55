-- The items of a tree whose leaves are answers, read from the last to the first, leave its value.
use Rattle.std.proofs.Common.{◌≡◌, ◌+◌, ◌≤◌, ◌<◌, ◌++◌, ℕ, zero, suc, List, [], ◌∷◌, length, map}
use Rattle.std.proofs.Common.{take, drop, get_or, sym, refl, ap, ◌∙◌, arith, append_assoc, Some}
use Rattle.std.proofs.Common.{None, length-append, option_and_then}
use Rattle.std.proofs.lemmas.Bool.{le-leb}
use Rattle.std.proofs.lemmas.List.{append-nil, drop_all, drop_at, drop_more, get_or-map}
use Rattle.std.proofs.lemmas.List.{get_or-take, length-map, map-append, take-take, take_at}
use Rattle.std.proofs.lemmas.Simd.{get_or-zip2, length-zip2, zip2_of_maps}
use Rattle.std.specs.{List.filter_map}
use Rattle.cfgx_grammar.specs.Tree.{ListFunction, Tree, Trees, is_function, is_leaf, count}
use Rattle.cfg_expr.specs.Fold.{Operations, literal_value, tree_value, values_by}
use Rattle.cfgx_parser.specs.Order.{func_members, list_func}
use Rattle.cfgx_parser.specs.nodes.Prefix.{Node, prefix, prefix_each}
use Rattle.cfgx_parser.specs.nodes.Shape.{shape, shape_of}
use Rattle.cfgx_parser.specs.declared.function.Func.{Func}
use Rattle.cfgx_parser.specs.declared.function.Func.TheVariants.{Not}
use Rattle.cfgx_parser.specs.declared.nodes.ExprNode.{ExprNode}
use Rattle.cfg_expr.specs.nodes.Reading.{HoldsAnswers, Item, Slot, applied, apply, as_function}
use Rattle.cfg_expr.specs.nodes.Reading.{as_leaf, entries, item, items, nodes_value, push_item}
use Rattle.cfg_expr.specs.nodes.Reading.{read, slot_of, slot_value, value_alone}
use Rattle.cfg_expr.specs.declared.expr.evaluating.Slot.TheVariants as slot
use Rattle.cfg_expr.specs.declared.expr.evaluating.Stack.{Stack}

-- Reading stands before the item at the place, and the stack has what those behind it leave.
pub record Reading {T : Type 0} (logic : Operations T) (all : List (Item T)) (place : ℕ)
    (stack : Stack T) : Type 0 where
  pub below : place ≤ stack.begin
  pub within : stack.begin ≤ length stack.slots.now
  pub are : read logic (drop place all) ≡ Some (entries stack)

module _ {T : Type 0} (logic : Operations T) where
  -- a tree on the stack, and trees, the first one on top
  abbrev entry : Tree T → Slot T
  entry (Tree.leaf answer) = slot.Leaf answer
  entry (Tree.literal truth) = slot.Leaf (literal_value logic truth)
  entry tree = slot.Function (tree_value logic tree)

  abbrev stacked : Trees T → List (Slot T)
  stacked Trees.none = []
  stacked (Trees.more tree trees) = entry tree ∷ stacked trees

  value-entry : (tree : Tree T) → slot_value (entry tree) ≡ Some (tree_value logic tree)
  value-entry (Tree.leaf answer) = refl
  value-entry (Tree.literal truth) = refl
  value-entry (Tree.list function trees) = refl
  value-entry (Tree.not tree) = refl

  length-stacked : (trees : Trees T) → length (stacked trees) ≡ count trees
  length-stacked Trees.none = refl
  length-stacked (Trees.more tree trees) = ap suc (length-stacked trees)

  values-stacked : (trees : Trees T)
      → (filter_map as_function (stacked trees) ≡ values_by logic is_function trees)
      × (filter_map as_leaf (stacked trees) ≡ values_by logic is_leaf trees)
  values-stacked Trees.none = (refl, refl)
  values-stacked (Trees.more (Tree.leaf answer) trees) =
      let others = values-stacked trees in (rw others.0 refl, rw others.1 refl)
  values-stacked (Trees.more (Tree.literal truth) trees) =
      let others = values-stacked trees in (rw others.0 refl, rw others.1 refl)
  values-stacked (Trees.more tree trees) =
      let others = values-stacked trees in (rw others.0 refl, rw others.1 refl)

  applied-stacked : (function : ListFunction) (trees : Trees T)
      → applied logic (list_func function (count trees)) (stacked trees)
      ≡ Some (tree_value logic (Tree.list function trees))
  applied-stacked ListFunction.all trees =
      let values = values-stacked trees in rw (values.0, values.1) refl
  applied-stacked ListFunction.any trees =
      let values = values-stacked trees in rw (values.0, values.1) refl

  length-members : (function : ListFunction) (trees : Trees T)
      → length (stacked trees) ≡ func_members (list_func function (count trees))
  length-members ListFunction.all trees = length-stacked trees
  length-members ListFunction.any trees = length-stacked trees

  -- the members of a function are on top
  pub apply-found : (func : Func) (stack : List (Slot T)) (count : ℕ) (value : T)
      → count ≡ func_members func → count ≤ length stack
      → applied logic func (take count stack) ≡ Some value
      → apply logic func stack ≡ Some (slot.Function value ∷ drop count stack)
  apply-found func stack count value is enough found =
      rw (← is, le-leb count (length stack) enough, found) refl

  apply-top : (func : Func) (top stack : List (Slot T)) (value : T)
      → length top ≡ func_members func → applied logic func top ≡ Some value
      → apply logic func (top ++ stack) ≡ Some (slot.Function value ∷ stack)
  apply-top func top stack value many found =
      apply-found func (top ++ stack) (length top) value many
      (omega (arith, length-append top stack))
      (rw (take_at top stack (length top) refl) found)
      ∙ rw (drop_at top stack (length top) refl) refl

  -- what is read of a node of a tree
  abbrev pub item_of : Node T → Item T
  item_of node = item logic (shape_of node) (slot_of node)

  mutual
    read-tree : (tree : Tree T) (rest : List (Item T)) (stack : List (Slot T))
        → read logic rest ≡ Some stack
        → read logic (map item_of (prefix tree) ++ rest) ≡ Some (entry tree ∷ stack)
    read-tree (Tree.leaf answer) rest stack is = rw is refl
    read-tree (Tree.literal truth) rest stack is = rw is refl
    read-tree (Tree.list function trees) rest stack is = rw (read-trees trees rest stack is)
        (apply-top (list_func function (count trees)) (stacked trees) stack _
        (length-members function trees) (applied-stacked function trees))
    read-tree (Tree.not tree) rest stack is = rw (read-tree tree rest stack is)
        (apply-top Not (entry tree ∷ []) stack _ refl (rw (value-entry tree) refl))

    read-trees : (trees : Trees T) (rest : List (Item T)) (stack : List (Slot T))
        → read logic rest ≡ Some stack
        → read logic (map item_of (prefix_each trees) ++ rest) ≡ Some (stacked trees ++ stack)
    read-trees Trees.none rest stack is = is
    read-trees (Trees.more tree trees) rest stack is =
        rw (map-append item_of (prefix tree) (prefix_each trees), append_assoc)
        (read-tree tree _ (stacked trees ++ stack) (read-trees trees rest stack is))

  -- the items of a tree leave its value
  pub items-value : (tree : Tree T) → option_and_then value_alone
      (read logic (map item_of (prefix tree))) ≡ Some (tree_value logic tree)
  items-value tree =
      let left : read logic (map item_of (prefix tree)) ≡ Some (entry tree ∷ []) =
      ap (read logic) (sym (append-nil (map item_of (prefix tree)))) ∙ read-tree tree [] [] refl in
      rw left (value-entry tree)

  pub nodes_value-holds : (nodes : List ExprNode) (slots : List (Slot T)) (tree : Tree T)
      → HoldsAnswers nodes slots tree → nodes_value logic nodes slots ≡ Some (tree_value logic tree)
  nodes_value-holds nodes slots tree holds =
      let are : items logic nodes slots ≡ map item_of (prefix tree) =
      zip2_of_maps (item logic) shape_of slot_of (prefix tree) holds.shapes holds.answers in
      rw are (items-value tree)

  -- where reading stops at an item, it stops in front of it too
  read-stops : (place : ℕ) (all : List (Item T)) → read logic (drop place all) ≡ None
      → read logic all ≡ None
  read-stops zero all stops = stops
  read-stops (suc place) [] stops = stops
  read-stops (suc place) (first ∷ others) stops = rw (read-stops place others stops) refl

  -- before the last item nothing is read
  pub Reading-begins : (all : List (Item T)) (place : ℕ) (stack : Stack T) → length all ≡ place
      → length stack.slots.now ≡ place → stack.begin ≡ place → Reading logic all place stack
  Reading-begins all place stack many same is = record {
    below = omega (arith, is);
    within = omega (arith, is, same);
    are = rw (
      drop_all place all (omega (arith, many)),
      drop_all stack.begin stack.slots.now (omega (arith, is, same)),
    ) refl;
  }

  -- the item at the place is read, which is in front of those from `from` on
  module _ {all : List (Item T)} (place from : ℕ) {stack : Stack T} {here : Item T}
      (at : drop place all ≡ here ∷ drop from all) (reading : Reading logic all from stack) where
    pub Reading-next : (next : Stack T) → push_item logic here (entries stack) ≡ Some (entries next)
        → place ≤ next.begin → next.begin ≤ length next.slots.now → Reading logic all place next
    Reading-next next pushes below within =
        record { below = below; within = within; are = rw (at, reading.are) pushes }

    pub Reading-stops : push_item logic here (entries stack) ≡ None
        → option_and_then value_alone (read logic all) ≡ None
    Reading-stops stops =
        let none : read logic (drop place all) ≡ None = rw (at, reading.are) stops in
        rw (read-stops place all none) refl

  pub length-items : (nodes : List ExprNode) (slots : List (Slot T)) → length slots ≡ length nodes
      → length (items logic nodes slots) ≡ length nodes
  length-items nodes slots many = let shapes = length-map nodes shape in
      length-zip2 (item logic) (map shape nodes) slots (omega (arith, many, shapes)) ∙ shapes

  -- the item of the node at the place, whose slot is as it was
  pub node-at : (nodes : List ExprNode) (old now : List (Slot T)) (place from : ℕ)
      (otherwise : ExprNode) → from ≡ place + 1 → place < length nodes → length old ≡ length nodes
      → take from now ≡ take from old → drop place (items logic nodes old)
      ≡ item logic (shape (get_or nodes place otherwise)) (get_or now place slot.Empty)
      ∷ drop from (items logic nodes old)
  node-at nodes old now place from otherwise next_is inside many front =
      let shapes = length-map nodes shape in
      let one = get_or nodes place otherwise in
      let same : get_or now place slot.Empty ≡ get_or old place slot.Empty =
      sym (get_or-take from now place slot.Empty (omega (arith, next_is)))
      ∙ ap (λ l. get_or l place slot.Empty) front
      ∙ get_or-take from old place slot.Empty (omega (arith, next_is)) in
      let here = item logic (shape one) (get_or now place slot.Empty) in
      rw next_is (drop_more (items logic nodes old) place here
      (omega (arith, inside, length-items nodes old many))
      ∙ ap (λ first. first ∷ drop (place + 1) (items logic nodes old))
      (get_or-zip2 (item logic) (map shape nodes) old place (shape one) slot.Empty here
      (omega (arith, inside, shapes)) (omega (arith, inside, many))
      ∙ rw (get_or-map shape nodes place otherwise (shape one) inside, same) refl))

-- what is in front of the place stays, if what was in front of a later one was as it is
pub fronts : {X : Type 0} (next now old : List X) (place from : ℕ) → place ≤ from
    → take place next ≡ take place now → take from now ≡ take from old
    → take place next ≡ take place old
fronts next now old place from inside front before =
    front ∙ sym (take-take place from now inside) ∙ ap (take place) before
    ∙ take-take place from old inside

-- a stack with none or several entries has no value alone
pub not_alone : {T : Type 0} (stack : List (Slot T)) → (length stack ≡ 1 → ⊥)
    → value_alone stack ≡ None
not_alone [] other = refl
not_alone (one ∷ []) other = absurd (other refl)
not_alone (one ∷ next ∷ stack) other = refl
