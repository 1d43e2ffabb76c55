-- What the writer of nodes has written, and what each of its calls changes.
use Rattle.std.specs.Prelude.{ℕ, ◌-◌, List, [], ◌∷◌, ◌++◌, length, take, drop, set, Option}
use Rattle.cfgx_grammar.specs.Question.{Leaf}
use Rattle.cfgx_parser.specs.Located.{predicate_located}
use Rattle.cfgx_parser.specs.declared.function.Func.{Func}
use Rattle.cfgx_parser.specs.declared.function.Func.TheVariants.{Not}
pub use Rattle.cfgx_parser.specs.declared.nodes.writer.Opening.{Opening}
use Rattle.cfgx_parser.specs.declared.nodes.ExprNode.{ExprNode}
use Rattle.cfgx_parser.specs.declared.nodes.ExprNode.TheVariants as node
use Rattle.cfgx_parser.specs.declared.located.Span.{Span}

-- the node of a leaf with these spans
abbrev pub located : Span → Option Span → Leaf → ExprNode
located key value (Leaf.predicate question) =
    node.Predicate (predicate_located key value question)
located key value (Leaf.literal truth) = node.Literal truth

-- `nodes` are in source order. `waiting` are the places of the predicates whose list has not ended,
-- those of inner lists last. `places` are those of the other predicates, in the order in which they
-- are asked.
pub record Written : Type 0 where
  pub nodes : List ExprNode
  pub waiting : List ℕ
  pub places : List ℕ

abbrev pub nothing : Written
nothing = record { nodes = []; waiting = []; places = [] }

abbrev pub opening_of : Written → Opening
opening_of w = record { node = length w.nodes; waiting = length w.waiting }

-- the place of a node, if it is a predicate
abbrev pub asked_at : ExprNode → ℕ → List ℕ
asked_at (node.Fn func len) place = []
asked_at (node.Predicate predicate) place = place ∷ []
asked_at (node.Literal truth) place = []

-- one more node is written
abbrev pub with_node : ExprNode → Written → Written
with_node written w = record w { nodes = w.nodes ++ written ∷ [] }

-- one more leaf is written
abbrev pub with_leaf : ExprNode → Written → Written
with_leaf leaf w = record w {
  nodes = w.nodes ++ leaf ∷ [];
  waiting = w.waiting ++ asked_at leaf (length w.nodes);
}

-- the node of a function that has not ended: which one it is, its members and the length of its
-- subtree are not known
abbrev pub begun : ExprNode
begun = node.Fn Not 0

abbrev pub with_function : Written → Written
with_function w = with_node begun w

-- A list ends. Its own predicates, those of `waiting` from `begin` on, are asked next.
abbrev pub with_list_ended : ℕ → Written → Written
with_list_ended begin w = record w {
  waiting = take begin w.waiting;
  places = w.places
      ++ drop begin w.waiting;
}

-- The node of a function whose members are all written is completed: its subtree are the nodes from
-- it on.
abbrev pub completed : ℕ → Func → Written → Written
completed place func w =
    record w { nodes = set w.nodes place (node.Fn func (length w.nodes - place)) }

-- the function that began at the opening ends
abbrev pub with_function_ended : Opening → Func → Written → Written
with_function_ended opening func w = with_list_ended opening.waiting (completed opening.node func w)
