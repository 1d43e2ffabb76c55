-- The steps of a condition, in which each predicate has its number.
use Rattle.std.proofs.Common.{◌≡◌, ◌+◌, ◌<◌, ◌≤◌, ℕ, zero, suc, List, [], ◌∷◌, length, map}
use Rattle.std.proofs.Common.{refl, sym, ap, true, ◌∙◌, ◌++◌, arith, cond, count_by}
use Rattle.std.proofs.Common.{length-append}
use Rattle.std.proofs.lemmas.List.{drop-map, get_or_past, length-map}
use Rattle.std.proofs.lemmas.List.Sums.{sum_by-append, sum_by-cons}
use Rattle.std.proofs.lemmas.Simd.{map-map}
use Rattle.std.proofs.lemmas.List.FromFn.{fill_by_all, length-range_with_len}
use Rattle.std.specs.List.{AllByRecursion, range_with_len}
use Rattle.cfgx_grammar.specs.Tree.{Tree, Trees, asked, asked_by, count, is_function, is_leaf}
use Rattle.cfgx_parser.specs.declared.function.Func.TheVariants.{Not}
use Rattle.cfgx_grammar.{specs.Answer.HasOneTree, proofs.Answering.only_tree}
use Rattle.cfgx_parser.specs.nodes.Prefix.{Node, node_at, places, prefix}
use Rattle.cfgx_parser.specs.Order.{list_func}
use Rattle.cfgx_parser.specs.nodes.Shape.{shape, shape_of}
use Rattle.cfgx_parser.specs.declared.nodes.ExprNode.{ExprNode}
use Rattle.cfgx_parser.proofs.Places.{length-places}
use Rattle.cfgx_parser.proofs.Shapes.{length-shape, places-shape, shapes-shape}
use Rattle.cfg_expr.specs.Fold.{Left, Operations, answered, answered_each, first_or}
use Rattle.cfg_expr.specs.Fold.{left_to, tree_fold, tree_map, tree_value, trees_map}
use Rattle.cfg_expr.specs.Steps.{AreCounted, HasValue, answer_at, is_ask, numbered, steps}
use Rattle.cfg_expr.specs.Steps.{steps_each, steps_of}
use Rattle.cfg_expr.proofs.Dealing.{asked-answered}
use Rattle.cfg_expr.proofs.SameShapes.{answered-shape}
use Rattle.cfg_expr.specs.declared.expr.steps.Step.{Step}
use Rattle.cfg_expr.specs.declared.expr.steps.Step.TheVariants.{Ask, Literal, Function}
use Rattle.cfg_expr.specs.nodes.{AnswerSlots.put_at, Reading.shape_step}
use Rattle.cfg_expr.proofs.evaluated.{Nodes.shapes-kept, Placed.placed}
use Rattle.cfg_expr.proofs.stepped.Items.{node_step, steps-nodes}

module _ {X Y : Type 0} (f : X → Y) (otherwise : X) where
  first-mapped : (answers : List X)
      → f (first_or otherwise answers) ≡ first_or (f otherwise) (map f answers)
  first-mapped [] = refl
  first-mapped (answer ∷ answers) = refl

  abbrev left_mapped : Left X → Left Y
  left_mapped left = record { functions = map f left.functions; leaves = map f left.leaves }

  -- a map of answers that are dealt out is what the mapped ones give
  mutual
    tree_map-answered : {Q : Type 0} (tree : Tree Q) (answers : List X)
        → tree_map f (answered otherwise tree answers)
        ≡ answered (f otherwise) tree (map f answers)
    tree_map-answered (Tree.leaf x) answers = ap Tree.leaf (first-mapped answers)
    tree_map-answered (Tree.literal truth) answers = refl
    tree_map-answered (Tree.list function trees) answers = ap (Tree.list function)
        (trees_map-answered trees (left_to trees answers)
        ∙ rw (drop-map f (length (asked_by is_function trees)) answers) refl)
    tree_map-answered (Tree.not tree) answers = ap Tree.not (tree_map-answered tree answers)

    trees_map-answered : {Q : Type 0} (trees : Trees Q) (left : Left X)
        → trees_map f (answered_each otherwise trees left)
        ≡ answered_each (f otherwise) trees (left_mapped left)
    trees_map-answered Trees.none left = refl
    trees_map-answered (Trees.more (Tree.leaf x) trees) left =
        rw (first-mapped left.leaves, trees_map-answered trees, drop-map f 1 left.leaves) refl
    trees_map-answered (Trees.more (Tree.literal truth) trees) left =
        rw (trees_map-answered trees) refl
    trees_map-answered (Trees.more tree trees) left =
        rw (
          tree_map-answered tree left.functions,
          trees_map-answered trees,
          drop-map f (length (asked tree)) left.functions,
        ) refl

numbers-below : (first many limit : ℕ) → first + many ≤ limit
    → AllByRecursion (λ number. number < limit) (range_with_len first many)
numbers-below first zero limit below = tt
numbers-below first (suc many) limit below =
    (omega (arith, below), numbers-below (first + 1) many limit (omega (arith, below)))

-- the numbered tree asks the numbers in order
pub asked-numbered : {X : Type 0} (tree : Tree X)
    → asked (numbered tree) ≡ range_with_len 0 (length (asked tree))
asked-numbered tree = asked-answered (length (asked tree)) tree _
    (length-range_with_len 0 (length (asked tree)))

pub length-steps : {X : Type 0} (tree : Tree X) → length (steps_of tree) ≡ length (prefix tree)
length-steps tree = sym (ap length (steps-nodes (numbered tree)))
    ∙ length-map (prefix (numbered tree)) node_step
    ∙ sym (length-shape tree (numbered tree) (answered-shape (length (asked tree)) tree _))

module _ {X T : Type 0} (logic : Operations T) (tree : Tree X) (answers : List T)
    (many : length answers ≡ length (asked tree)) where
  -- each number is that of an answer
  pub numbers-inside : AllByRecursion (λ number. number < length answers) (asked (numbered tree))
  numbers-inside = rw (asked-numbered tree)
      (numbers-below 0 (length (asked tree)) (length answers) (omega (arith, many)))

  -- the tree with the answers in place of their numbers
  pub given-numbered : tree_map (answer_at logic answers) (numbered tree)
      ≡ answered logic.top tree answers
  given-numbered =
      let count = length (asked tree) in
      let get = answer_at logic answers in
      let all : map get (range_with_len 0 count) ≡ answers =
      sym (fill_by_all get answers count logic.top many (λ k below. refl)) in
      let past : get count ≡ logic.top = get_or_past answers count logic.top (omega (arith, many)) in
      rw (tree_map-answered get count tree (range_with_len 0 count), all, past) refl

-- the steps of a tree have its value
pub HasValue-steps : {X T : Type 0} (logic : Operations T) (tree : Tree X) (answers : List T)
    → length answers ≡ length (asked tree)
    → HasValue logic (steps_of tree) answers (tree_fold logic tree answers)
HasValue-steps logic tree answers many = record {
  tree = numbered tree;
  are = refl;
  inside = numbers-inside logic tree answers many;
  value_is = sym (ap (tree_value logic) (given-numbered logic tree answers many));
}

-- A tree has as many steps that ask as it asks predicates.

count-first : (step : Step) (all : List Step)
    → count_by is_ask (step ∷ all) ≡ cond (is_ask step) 1 0 + count_by is_ask all
count-first = sum_by-cons (λ step. cond (is_ask step) 1 0)

count-both : (these those : List Step)
    → count_by is_ask (these ++ those) ≡ count_by is_ask these + count_by is_ask those
count-both = sum_by-append (λ step. cond (is_ask step) 1 0)

mutual
  asks-tree : (tree : Tree ℕ) → count_by is_ask (steps tree) ≡ length (asked tree)
  asks-tree (Tree.leaf number) = count-first (Ask number) []
  asks-tree (Tree.literal truth) = count-first (Literal truth) []
  asks-tree (Tree.list function trees) = omega (
    arith,
    count-first (Function (list_func function (count trees))) (steps_each trees),
    asks-trees trees,
    length-append (asked_by is_function trees) (asked_by is_leaf trees),
  )
  asks-tree (Tree.not tree) =
      omega (arith, count-first (Function Not) (steps tree), asks-tree tree)

  asks-trees : (trees : Trees ℕ) → count_by is_ask (steps_each trees)
      ≡ length (asked_by is_function trees) + length (asked_by is_leaf trees)
  asks-trees Trees.none = refl
  asks-trees (Trees.more (Tree.leaf number) trees) =
      omega (arith, count-first (Ask number) (steps_each trees), asks-trees trees)
  asks-trees (Trees.more (Tree.literal truth) trees) =
      omega (arith, count-first (Literal truth) (steps_each trees), asks-trees trees)
  asks-trees (Trees.more tree trees) = omega (
    arith,
    count-both (steps tree) (steps_each trees),
    asks-tree tree,
    asks-trees trees,
    length-append (asked tree) (asked_by is_function trees),
  )

pub AreCounted-steps : {X T : Type 0} (tree : Tree X) (answers : List T)
    → length answers ≡ length (asked tree) → AreCounted (steps_of tree) answers
AreCounted-steps tree answers many = many
    ∙ sym (asks-tree (numbered tree) ∙ ap length (asked-numbered tree)
    ∙ length-range_with_len 0 (length (asked tree)))

-- the step of each node, with the numbers put at the places of the predicates
pub steps-written : {T : Type 0} (form : Step → T) {text : List ℕ} (nodes : List ExprNode)
    {ps : List ℕ} (kept : (one : HasOneTree text) × (map (node_at text) nodes ≡ prefix one.tree))
    (found : (one : HasOneTree text) × (ps ≡ places 0 one.tree))
    → put_at (map (λ node. form (shape_step (shape node))) nodes) ps
    (map (λ number. form (Ask number)) (range_with_len 0 (length ps)))
    ≡ map form (steps_of kept.0.tree)
steps-written {T = T} form nodes {ps} kept found =
    let tree = kept.0.tree in
    let numbers = numbered tree in
    let same = answered-shape (length (asked tree)) tree (range_with_len 0 (length (asked tree))) in
    let open_step : Node ℕ → T = λ node. form (shape_step (shape_of node)) in
    let places_are : ps ≡ places 0 numbers =
    found.1 ∙ ap (places 0) (only_tree kept.0 found.0.tree found.0.reads.has)
    ∙ places-shape tree numbers same in
    let asks : range_with_len 0 (length ps) ≡ asked numbers =
    ap (range_with_len 0) (ap length places_are ∙ length-places numbers
    ∙ ap length (asked-numbered tree) ∙ length-range_with_len 0 (length (asked tree)))
    ∙ sym (asked-numbered tree) in
    let written : map (λ node. form (shape_step (shape node))) nodes
    ≡ map open_step (prefix numbers) =
    sym (map-map (λ s. form (shape_step s)) shape nodes)
    ∙ ap (map (λ s. form (shape_step s)))
    (shapes-kept nodes kept kept.0 ∙ shapes-shape tree numbers same)
    ∙ map-map (λ s. form (shape_step s)) shape_of (prefix numbers) in
    rw (written, asks, places_are)
    (placed (λ node. form (node_step node)) open_step (form (Literal true)) (λ truth. refl)
    (λ func len. refl) numbers)
    ∙ sym (map-map form node_step (prefix numbers)) ∙ ap (map form) (steps-nodes numbers)
