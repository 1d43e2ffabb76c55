-- The steps of a tree of numbers are its nodes, and over answers they leave the value of the tree
-- with the answers in place of their numbers.
use Rattle.std.proofs.Common.{◌≡◌, ◌<◌, ◌++◌, ℕ, List, [], ◌∷◌, length, map, Some, ap, refl}
use Rattle.std.proofs.Common.{sym, ◌∙◌}
use Rattle.std.proofs.lemmas.{List.map-append, Option.slice_get-get_or}
use Rattle.std.specs.List.{AllByRecursion}
use Rattle.cfgx_grammar.specs.Tree.{Tree, Trees, asked, asked_by, count, is_function, is_leaf}
use Rattle.cfgx_grammar.proofs.ListLemmas.{all_of_first, all_of_second}
use Rattle.cfgx_parser.specs.nodes.Prefix.{Node, prefix, prefix_each}
use Rattle.cfg_expr.specs.Fold.{Operations, tree_map, tree_value, trees_map}
use Rattle.cfg_expr.specs.Steps.{answer_at, steps, steps_each}
use Rattle.cfg_expr.specs.declared.expr.steps.Step.{Step}
use Rattle.cfg_expr.specs.declared.expr.steps.Step.TheVariants.{Ask, Literal, Function}
use Rattle.cfg_expr.specs.nodes.Reading.{Item, answer_item, step_item, steps_value}
use Rattle.cfg_expr.proofs.evaluated.Read.{item_of, items-value}

-- the step of a node of a tree of numbers
abbrev pub node_step : Node ℕ → Step
node_step (Node.leaf number) = Ask number
node_step (Node.literal truth) = Literal truth
node_step (Node.function func len) = Function func

mutual
  pub steps-nodes : (tree : Tree ℕ) → map node_step (prefix tree) ≡ steps tree
  steps-nodes (Tree.leaf number) = refl
  steps-nodes (Tree.literal truth) = refl
  steps-nodes (Tree.list function trees) = rw (steps_each-nodes trees) refl
  steps-nodes (Tree.not tree) = rw (steps-nodes tree) refl

  steps_each-nodes : (trees : Trees ℕ) → map node_step (prefix_each trees) ≡ steps_each trees
  steps_each-nodes Trees.none = refl
  steps_each-nodes (Trees.more tree trees) = map-append node_step (prefix tree) (prefix_each trees)
      ∙ rw (steps-nodes tree, steps_each-nodes trees) refl

count-mapped : {X Y : Type 0} (f : X → Y) (trees : Trees X)
    → count (trees_map f trees) ≡ count trees
count-mapped f Trees.none = refl
count-mapped f (Trees.more tree trees) = rw (count-mapped f trees) refl

both : {X : Type 0} {one other these those : List X} → one ≡ other → these ≡ those
    → one ++ these ≡ other ++ those
both first rest = rw (first, rest) refl

module _ {T : Type 0} (logic : Operations T) (answers : List T) where
  -- each number is that of an answer
  abbrev pub Inside : List ℕ → Type 0
  Inside numbers = AllByRecursion (λ number. number < length answers) numbers

  abbrev items : List Step → List (Item T)
  items = map (step_item logic answers)

  abbrev given : Tree ℕ → Tree T
  given = tree_map (answer_at logic answers)

  abbrev given_each : Trees ℕ → Trees T
  given_each = trees_map (answer_at logic answers)

  mutual
    items-tree : (tree : Tree ℕ) → Inside (asked tree)
        → items (steps tree) ≡ map (item_of logic) (prefix (given tree))
    items-tree (Tree.leaf number) inside = ap (λ item. answer_item item ∷ [])
        (slice_get-get_or answers number logic.top inside.0)
    items-tree (Tree.literal truth) inside = refl
    items-tree (Tree.list function trees) inside =
        rw (
          count-mapped (answer_at logic answers) trees,
          items-trees trees
              (all_of_first _ (asked_by is_function trees) _ inside)
              (all_of_second _ (asked_by is_function trees) _ inside),
        ) refl
    items-tree (Tree.not tree) inside = rw (items-tree tree inside) refl

    items-trees : (trees : Trees ℕ) → Inside (asked_by is_function trees)
        → Inside (asked_by is_leaf trees)
        → items (steps_each trees) ≡ map (item_of logic) (prefix_each (given_each trees))
    items-trees Trees.none inner own = refl
    items-trees (Trees.more (Tree.leaf number) trees) inner own =
        rw (slice_get-get_or answers number logic.top own.0, items-trees trees inner own.1) refl
    items-trees (Trees.more (Tree.literal truth) trees) inner own =
        rw (items-trees trees inner own) refl
    items-trees (Trees.more tree trees) inner own =
        map-append (step_item logic answers) (steps tree) (steps_each trees)
        ∙ both (items-tree tree (all_of_first _ (asked tree) _ inner))
        (items-trees trees (all_of_second _ (asked tree) _ inner) own)
        ∙ sym (map-append (item_of logic) (prefix (given tree)) (prefix_each (given_each trees)))

  pub steps_value-tree : (tree : Tree ℕ) → Inside (asked tree)
      → steps_value logic (steps tree) answers ≡ Some (tree_value logic (given tree))
  steps_value-tree tree inside = rw (items-tree tree inside) (items-value logic (given tree))
