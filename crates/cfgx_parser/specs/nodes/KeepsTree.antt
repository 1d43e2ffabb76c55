-- What an `Expression` or a `Condition` keeps of its text: the nodes of its tree, and the places of
-- the predicates in the order in which they are asked.
use Rattle.std.specs.Prelude.{◌≡◌, ℕ, List, map, Option, Some, option_map, option_and_then}
use Rattle.std.specs.List.{AllByRecursion, slice_get, filter_map}
use Rattle.cfgx_grammar.specs.Question.{Question}
use Rattle.cfgx_grammar.specs.Tree.{Tree}
use Rattle.cfgx_grammar.specs.Answer.{HasOneTree}
use Rattle.cfgx_parser.specs.Located.{HasCut, question_at}
use Rattle.cfgx_parser.specs.ReadFrom.{AreRead}
use Rattle.cfgx_parser.specs.nodes.Prefix.{node_at, places, predicate_of, predicates_in, prefix}
use Rattle.cfgx_parser.specs.nodes.WritesNodes.{NodeHasCut}
use Rattle.cfgx_parser.specs.declared.located.LocatedPredicate.{LocatedPredicate}
use Rattle.cfgx_parser.specs.declared.nodes.ExprNode.{ExprNode}
use Rattle.cfgx_parser.specs.declared.nodes.ExprNode.TheVariants as node

-- the nodes and the places are those of the tree, and the text can be cut at their spans
pub record KeepsTree (text : List ℕ) (nodes : List ExprNode) (kept_places : List ℕ)
    (tree : Tree Question) : Type 0 where
  pub nodes_are : map (node_at text) nodes ≡ prefix tree
  pub cuts : AllByRecursion (NodeHasCut text) nodes
  pub places_are : kept_places ≡ places 0 tree

-- the nodes and the places are those of the text's one tree, and the predicates among the nodes
-- were read from its tokens
pub record KeepsOneTree (text : List ℕ) (nodes : List ExprNode) (kept_places : List ℕ) : Type 0
  where
    pub one : HasOneTree text
    pub keeps : KeepsTree text nodes kept_places one.tree
    pub read : AreRead text (predicates_in nodes)

-- the predicate at the place
abbrev pub predicate_at : List ExprNode → ℕ → Option LocatedPredicate
predicate_at nodes place = option_and_then predicate_of (slice_get nodes place)

-- the predicates at the places
abbrev pub predicates_at : List ExprNode → List ℕ → List LocatedPredicate
predicates_at nodes kept_places = filter_map (predicate_at nodes) kept_places

-- what the predicates at the places ask
abbrev pub questions_at : List ℕ → List ExprNode → List ℕ → List Question
questions_at text nodes kept_places = filter_map (λ place. option_map (question_at text)
    (predicate_at nodes place)) kept_places

-- a predicate stands at the place, and the text can be cut at its spans
pub record NamesPredicate (text : List ℕ) (nodes : List ExprNode) (place : ℕ) : Type 0 where
  pub predicate : LocatedPredicate
  pub stands : slice_get nodes place ≡ Some (node.Predicate predicate)
  pub cut : HasCut text predicate

abbrev pub NamePredicates : List ℕ → List ExprNode → List ℕ → Type 0
NamePredicates text nodes kept_places = AllByRecursion (NamesPredicate text nodes) kept_places
