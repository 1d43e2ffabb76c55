-- The shape of a node: what it is, except for what its predicate says.
use Rattle.std.specs.Prelude.{ℕ, Bool}
use Rattle.cfgx_parser.specs.nodes.Prefix.{Node}
use Rattle.cfgx_parser.specs.declared.function.Func.{Func}
use Rattle.cfgx_parser.specs.declared.nodes.ExprNode.{ExprNode}
use Rattle.cfgx_parser.specs.declared.nodes.ExprNode.TheVariants as node

pub data Shape : Type 0 where
  predicate : Shape
  literal : Bool → Shape
  function : Func → ℕ → Shape

abbrev pub shape : ExprNode → Shape
shape (node.Fn func len) = Shape.function func len
shape (node.Predicate inner) = Shape.predicate
shape (node.Literal truth) = Shape.literal truth

-- the shape of a node of a tree
abbrev pub shape_of : {X : Type 0} → Node X → Shape
shape_of (Node.function func len) = Shape.function func len
shape_of (Node.leaf x) = Shape.predicate
shape_of (Node.literal truth) = Shape.literal truth
