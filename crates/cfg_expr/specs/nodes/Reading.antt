-- Items that are read from the last to the first, over a stack of the subtrees that no function has
-- joined yet, the first one on top. Source: Polish notation, whose functions stand in front of
-- their members.
use Rattle.std.specs.Prelude.{◌≡◌, ◌++◌, List, [], ◌∷◌, drop, if◌then◌else◌, length, map, nat_le}
use Rattle.std.specs.Prelude.{Option, Some, None, option_and_then, option_map, take}
use Rattle.std.specs.{List.{filter_map, slice_get}, Simd.Lanes.zip2}
use Rattle.cfg_expr.specs.Fold.{Operations, literal_value, from_last}
use Rattle.cfgx_grammar.specs.Tree.{Tree}
use Rattle.cfgx_parser.specs.Order.{func_members}
use Rattle.cfgx_parser.specs.nodes.Prefix.{Node, prefix}
use Rattle.cfgx_parser.specs.nodes.Shape.{Shape, shape, shape_of}
use Rattle.cfgx_parser.specs.declared.function.Func.{Func}
use Rattle.cfgx_parser.specs.declared.function.Func.TheVariants.{Not, All, Any}
use Rattle.cfgx_parser.specs.declared.nodes.ExprNode.{ExprNode}
use Rattle.cfg_expr.specs.declared.expr.evaluating.Connective.{Connective}
use Rattle.cfg_expr.specs.declared.expr.evaluating.Connective.TheVariants.{And, Or}
pub use Rattle.cfg_expr.specs.declared.expr.evaluating.Slot.{Slot}
use Rattle.cfg_expr.specs.declared.expr.evaluating.Slot.TheVariants as slot
use Rattle.cfg_expr.specs.declared.expr.evaluating.Stack.{Stack}
use Rattle.cfg_expr.specs.declared.expr.steps.Step.{Step}
use Rattle.cfg_expr.specs.declared.expr.steps.Step.TheVariants.{Ask, Literal, Function}

-- the value of no members, and how two values are joined
abbrev pub identity_of : {T : Type 0} → Operations T → Connective → T
identity_of logic And = logic.top
identity_of logic Or = logic.bottom

abbrev pub join_of : {T : Type 0} → Operations T → Connective → T → T → T
join_of logic And = logic.and
join_of logic Or = logic.or

-- the value in a slot, if there is one; if it is a leaf's; if it is a function's
abbrev pub slot_value : {T : Type 0} → Slot T → Option T
slot_value (slot.Leaf value) = Some value
slot_value (slot.Function value) = Some value
slot_value slot.Empty = None

abbrev pub as_leaf : {T : Type 0} → Slot T → Option T
as_leaf (slot.Leaf value) = Some value
as_leaf (slot.Function value) = None
as_leaf slot.Empty = None

abbrev pub as_function : {T : Type 0} → Slot T → Option T
as_function (slot.Leaf value) = None
as_function (slot.Function value) = Some value
as_function slot.Empty = None

-- the values of the members, the functions in front and then the leaves, joined from the last back
abbrev pub joined : {T : Type 0} → Operations T → Connective → List (Slot T) → T
joined logic connective members = from_last (join_of logic connective)
    (identity_of logic connective) (filter_map as_function members ++ filter_map as_leaf members)

-- the value of a function over its members, if that of `not` has a value
abbrev pub applied : {T : Type 0} → Operations T → Func → List (Slot T) → Option T
applied logic Not [] = None
applied logic Not (member ∷ members) = option_map logic.not (slot_value member)
applied logic (All n) members = Some (joined logic And members)
applied logic (Any n) members = Some (joined logic Or members)

-- the stack with the function's value in place of its members, if they are there
abbrev pub apply : {T : Type 0} → Operations T → Func → List (Slot T) → Option (List (Slot T))
apply logic func stack = if nat_le (func_members func) (length stack)
    then option_map (λ value. slot.Function value ∷ drop (func_members func) stack)
    (applied logic func (take (func_members func) stack))
    else None

-- what is read: an entry of the stack, a function, or an answer that is missing
pub data Item (T : Type 0) : Type 0 where
  entry : Slot T → Item T
  function : Func → Item T
  missing : Item T

abbrev pub push_item : {T : Type 0} → Operations T → Item T → List (Slot T)
    → Option (List (Slot T))
push_item logic (Item.entry first) stack = Some (first ∷ stack)
push_item logic (Item.function func) stack = apply logic func stack
push_item logic Item.missing stack = None

-- the stack that is left when the items are read from the last to the first
abbrev pub read : {T : Type 0} → Operations T → List (Item T) → Option (List (Slot T))
read logic [] = Some []
read logic (item ∷ items) = option_and_then (push_item logic item) (read logic items)

-- the value of the only entry, if there is exactly one
abbrev pub value_alone : {T : Type 0} → List (Slot T) → Option T
value_alone [] = None
value_alone (one ∷ []) = slot_value one
value_alone (one ∷ other ∷ stack) = None

-- the entries of the stack, as the code keeps them
abbrev pub entries : {T : Type 0} → Stack T → List (Slot T)
entries stack = drop stack.begin stack.slots.now

-- what is read of a node, whose slot holds its answer
abbrev pub item : {T : Type 0} → Operations T → Shape → Slot T → Item T
item logic Shape.predicate answer = Item.entry answer
item logic (Shape.literal truth) answer = Item.entry (slot.Leaf (literal_value logic truth))
item logic (Shape.function func len) answer = Item.function func

abbrev pub items : {T : Type 0} → Operations T → List ExprNode → List (Slot T) → List (Item T)
items logic nodes slots = zip2 (item logic) (map shape nodes) slots

-- the value that the nodes leave alone
abbrev pub nodes_value : {T : Type 0} → Operations T → List ExprNode → List (Slot T) → Option T
nodes_value logic nodes slots = option_and_then value_alone (read logic (items logic nodes slots))

-- what stands in the slot of a node before it is read: the answer of a predicate
abbrev pub slot_of : {T : Type 0} → Node T → Slot T
slot_of (Node.leaf answer) = slot.Leaf answer
slot_of (Node.literal truth) = slot.Empty
slot_of (Node.function func len) = slot.Empty

-- the slots hold the answers of the tree's predicates, each in the slot of its node
pub record HoldsAnswers {T : Type 0} (nodes : List ExprNode) (slots : List (Slot T))
    (tree : Tree T) : Type 0 where
  pub shapes : map shape nodes ≡ map shape_of (prefix tree)
  pub answers : slots ≡ map slot_of (prefix tree)

-- what is read of a step
abbrev pub answer_item : {T : Type 0} → Option T → Item T
answer_item None = Item.missing
answer_item (Some answer) = Item.entry (slot.Leaf answer)

abbrev pub step_item : {T : Type 0} → Operations T → List T → Step → Item T
step_item logic answers (Ask number) = answer_item (slice_get answers number)
step_item logic answers (Literal truth) = Item.entry (slot.Leaf (literal_value logic truth))
step_item logic answers (Function func) = Item.function func

-- the value that steps leave alone
abbrev pub steps_value : {T : Type 0} → Operations T → List Step → List T → Option T
steps_value logic steps answers =
    option_and_then value_alone (read logic (map (step_item logic answers) steps))

-- the step of a node; the number of a predicate stays open
abbrev pub shape_step : Shape → Step
shape_step Shape.predicate = Ask 0
shape_step (Shape.literal truth) = Literal truth
shape_step (Shape.function func len) = Function func
