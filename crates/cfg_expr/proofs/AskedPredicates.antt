-- The predicates at the places of a tree are what the tree asks, in this order.
use Rattle.std.proofs.{Common.{◌≡◌, ℕ, zero, suc, List, [], ◌∷◌}, lemmas.Option.slice_get-map}
use Rattle.std.proofs.Common.{length, map, Option, Some, option_map, refl, ap, arith, rules}
use Rattle.std.specs.List.{AllByRecursion, slice_get, filter_map}
use Rattle.cfgx_grammar.{specs.Question.Question, specs.Tree.Tree, specs.Tree.asked}
use Rattle.cfgx_parser.{specs.Located.question_at, specs.nodes.WritesNodes.NodeHasCut}
use Rattle.cfgx_parser.{specs.declared.nodes.ExprNode.ExprNode, proofs.Places.read-places}
use Rattle.cfgx_parser.specs.nodes.Prefix.{Node, node_at}
use Rattle.cfgx_parser.specs.nodes.KeepsTree.{KeepsTree, predicate_at, predicates_at}
use Rattle.cfgx_parser.specs.nodes.KeepsTree.{questions_at}
use Rattle.cfgx_parser.specs.nodes.KeepsTree.{NamesPredicate, NamePredicates}
use Rattle.cfgx_parser.specs.declared.nodes.ExprNode.TheVariants as node

-- what is asked at a place
abbrev question_in : List ℕ → List ExprNode → ℕ → Option Question
question_in text nodes place = option_map (question_at text) (predicate_at nodes place)

shown_same : (text : List ℕ) (nodes : List ExprNode) (place : ℕ) (question : Question)
    → slice_get (map (node_at text) nodes) place ≡ Some (Node.leaf question)
    → question_in text nodes place ≡ Some question
shown_same text nodes place question is = grind (arith, slice_get-map (node_at text) nodes place)

-- what a filter keeps, if it keeps something of each item
pub filter_map-some : {X Y : Type 0} (h : X → Option Y) (xs : List X)
    (ys : List Y) → map h xs ≡ map (λ (y : Y). Some y) ys → filter_map h xs ≡ ys
filter_map-some h [] [] e = refl
filter_map-some h (x ∷ xs) (y ∷ ys) e = grind (arith, filter_map-some h xs ys (cc))
filter_map-some h xs ys e = absurd (cc)

-- where a predicate is found

NamesPredicate-found : (text : List ℕ) (nodes : List ExprNode) (place : ℕ)
    (question : Question) → AllByRecursion (NodeHasCut text) nodes
    → question_in text nodes place ≡ Some question
    → NamesPredicate text nodes place
NamesPredicate-found text (node.Predicate predicate ∷ nodes) zero question cuts e =
    record { predicate = predicate; stands = refl; cut = cuts.0 }
NamesPredicate-found text (x ∷ nodes) (suc place) question cuts e =
    search (rules, NamesPredicate-found text nodes place question cuts.1 e)
NamesPredicate-found text nodes place question cuts e = absurd (cc)

NamePredicates-asks : (text : List ℕ) (nodes : List ExprNode) (asks : List ℕ)
    (questions : List Question) → AllByRecursion (NodeHasCut text) nodes
    → map (question_in text nodes) asks ≡ map (λ (q : Question). Some q) questions
    → NamePredicates text nodes asks
NamePredicates-asks text nodes [] questions cuts e = tt
NamePredicates-asks text nodes (place ∷ asks) (question ∷ questions) cuts e =
    let rest = NamePredicates-asks text nodes asks questions cuts (cc) in
    (NamesPredicate-found text nodes place question cuts (cc), rest)
NamePredicates-asks text nodes (place ∷ asks) [] cuts e = absurd (cc)

-- a predicate for each place
pub length-named : (text : List ℕ) (nodes : List ExprNode) (asks : List ℕ)
    → NamePredicates text nodes asks → length (predicates_at nodes asks) ≡ length asks
length-named text nodes [] names = refl
length-named text nodes (place ∷ asks) names =
    rw names.0.stands (ap suc (length-named text nodes asks names.1))

module _ {text : List ℕ} {nodes : List ExprNode} {asks : List ℕ} {tree : Tree Question}
    (k : KeepsTree text nodes asks tree) where
  -- the predicates at the places of a tree are what it asks
  asks_kept : map (question_in text nodes) asks ≡ map (λ (q : Question). Some q) (asked tree)
  asks_kept = rw k.places_are (read-places tree (question_in text nodes) (λ (q : Question). Some q)
      (λ place question is. shown_same text nodes place
      question (rw k.nodes_are is)))

  pub questions_at-kept : questions_at text nodes asks ≡ asked tree
  questions_at-kept = filter_map-some (question_in text nodes) asks (asked tree) asks_kept

  pub NamePredicates-kept : NamePredicates text nodes asks
  NamePredicates-kept = NamePredicates-asks text nodes asks (asked tree) k.cuts asks_kept
