-- A tree as nodes in prefix notation, and the places of its predicates among them.
use Rattle.std.specs.Prelude.{ℕ, ◌+◌, Bool, List, [], ◌∷◌, ◌++◌, length, Option, Some, None}
use Rattle.std.specs.List.{filter_map}
use Rattle.cfgx_grammar.specs.Question.{Question}
use Rattle.cfgx_grammar.specs.Tree.{Tree, Trees, asked, asked_by, count}
use Rattle.cfgx_parser.specs.{Located.question_at, Order.list_func}
use Rattle.cfgx_parser.specs.declared.function.Func.{Func}
use Rattle.cfgx_parser.specs.declared.function.Func.TheVariants.{Not}
use Rattle.cfgx_parser.specs.declared.nodes.ExprNode.{ExprNode}
use Rattle.cfgx_parser.specs.declared.nodes.ExprNode.TheVariants as node
use Rattle.cfgx_parser.specs.declared.located.LocatedPredicate.{LocatedPredicate}

-- a node of a tree
pub data Node (X : Type 0) : Type 0 where
  leaf : X → Node X
  literal : Bool → Node X
  -- with the number of nodes of its subtree, itself among them
  function : Func → ℕ → Node X

-- the node with `f` of its leaf
abbrev pub node_map : {X Y : Type 0} → (X → Y) → Node X → Node Y
node_map f (Node.leaf x) = Node.leaf (f x)
node_map f (Node.literal truth) = Node.literal truth
node_map f (Node.function func len) = Node.function func len

-- the node of the program, whose leaf is a predicate where it stands
abbrev pub inner_node : ExprNode → Node LocatedPredicate
inner_node (node.Fn func len) = Node.function func len
inner_node (node.Predicate predicate) = Node.leaf predicate
inner_node (node.Literal truth) = Node.literal truth

-- the predicate of a node, if it is one
abbrev pub predicate_of : ExprNode → Option LocatedPredicate
predicate_of (node.Fn func len) = None
predicate_of (node.Predicate predicate) = Some predicate
predicate_of (node.Literal truth) = None

-- the predicates among nodes
abbrev pub predicates_in : List ExprNode → List LocatedPredicate
predicates_in nodes = filter_map predicate_of nodes

-- the node of the program, whose leaf is what its predicate asks
abbrev pub node_at : List ℕ → ExprNode → Node Question
node_at text (node.Fn func len) = Node.function func len
node_at text (node.Predicate predicate) = Node.leaf (question_at text predicate)
node_at text (node.Literal truth) = Node.literal truth

-- the node of a function, and then those of its members; it has the number of all these nodes
abbrev pub headed : {X : Type 0} → Func → List (Node X) → List (Node X)
headed func members = Node.function func (1 + length members) ∷ members

-- the nodes of a tree
abbrev mutual
  pub prefix : {X : Type 0} → Tree X → List (Node X)
  prefix (Tree.leaf x) = Node.leaf x ∷ []
  prefix (Tree.literal truth) = Node.literal truth ∷ []
  prefix (Tree.list which trees) = headed (list_func which (count trees)) (prefix_each trees)
  prefix (Tree.not tree) = headed Not (prefix tree)

  pub prefix_each : {X : Type 0} → Trees X → List (Node X)
  prefix_each Trees.none = []
  prefix_each (Trees.more tree trees) = prefix tree ++ prefix_each trees

abbrev mutual
  -- the tree with each predicate replaced by the place of its node; the tree begins at `place`
  pub with_places : {X : Type 0} → ℕ → Tree X → Tree ℕ
  with_places place (Tree.leaf x) = Tree.leaf place
  with_places place (Tree.literal truth) = Tree.literal truth
  with_places place (Tree.list which trees) = Tree.list which (with_places_each (place + 1) trees)
  with_places place (Tree.not tree) = Tree.not (with_places (place + 1) tree)

  pub with_places_each : {X : Type 0} → ℕ → Trees X → Trees ℕ
  with_places_each place Trees.none = Trees.none
  with_places_each place (Trees.more tree trees) = Trees.more (with_places place tree)
      (with_places_each (place + length (prefix tree)) trees)

-- the places of the predicates of a tree, in the order in which they are asked; the tree begins at
-- `place`
abbrev pub places : {X : Type 0} → ℕ → Tree X → List ℕ
places place tree = asked (with_places place tree)

-- the places of the predicates of those trees of a list that pass the test
abbrev pub places_by : {X : Type 0} → (Tree ℕ → Bool) → ℕ → Trees X → List ℕ
places_by test place trees = asked_by test (with_places_each place trees)
