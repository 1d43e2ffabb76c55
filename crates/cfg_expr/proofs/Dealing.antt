-- The leaves of an answered tree are the answers that were dealt out to it.
use Rattle.std.proofs.Common.{◌≡◌, ◌≤◌, List, [], ◌∷◌, ◌++◌, length, take, take_all}
use Rattle.std.proofs.Common.{refl, arith, length-append, length-drop, take-add}
use Rattle.cfgx_grammar.specs.Tree.{Tree, Trees, is_function, is_leaf, asked, asked_by}
use Rattle.cfg_expr.specs.Fold.{left_after, left_to, answered, answered_each}

-- two parts of what is asked, one after the other
taken_both : {X T : Type 0} (first second : List X) (answers these those : List T)
    → these ≡ take (length first) answers → those ≡ take (length second) (left_after first answers)
    → these ++ those ≡ take (length (first ++ second)) answers
taken_both first second answers these those these_are those_are =
    rw (these_are, those_are, length-append first second, take-add (length first)) refl

module _ {X T : Type 0} (otherwise : T) where
  -- what the functions of a list ask, and what its leaves ask
  abbrev Takes : Trees X → List T → List T → Type 0
  Takes trees inner own =
      let answers = answered_each otherwise trees (record { functions = inner; leaves = own }) in
      (asked_by is_function answers ≡ take (length (asked_by is_function trees)) inner)
      × (asked_by is_leaf answers ≡ take (length (asked_by is_leaf trees)) own)

  abbrev TakesAll : Trees X → Type 0
  TakesAll trees = (inner own : List T) → length (asked_by is_function trees) ≤ length inner
      → length (asked_by is_leaf trees) ≤ length own → Takes trees inner own

  list_taken : (trees : Trees X) (answers : List T) → TakesAll trees
      → let inner = asked_by is_function trees in let own = asked_by is_leaf trees in
      let made = answered_each otherwise trees (left_to trees answers) in
      length (inner ++ own) ≤ length answers
      → asked_by is_function made ++ asked_by is_leaf made ≡ take (length (inner ++ own)) answers
  list_taken trees answers takes enough = grind (arith, length-append, length-drop, taken_both)

  mutual
    asked-taken : (tree : Tree X) (answers : List T) → length (asked tree) ≤ length answers
        → asked (answered otherwise tree answers) ≡ take (length (asked tree)) answers
    asked-taken (Tree.leaf x) [] enough = absurd (omega arith)
    asked-taken (Tree.leaf x) (answer ∷ answers) enough = refl
    asked-taken (Tree.literal truth) answers enough = refl
    asked-taken (Tree.list function trees) answers enough =
        list_taken trees answers (asked_each-taken trees) enough
    asked-taken (Tree.not tree) answers enough = asked-taken tree answers enough

    asked_each-taken : (trees : Trees X) → TakesAll trees
    asked_each-taken Trees.none inner own enough some = (refl, refl)
    asked_each-taken (Trees.more (Tree.leaf x) trees) inner [] enough some = absurd (omega arith)
    asked_each-taken (Trees.more (Tree.leaf x) trees) inner (answer ∷ own) enough some =
        grind (arith, asked_each-taken trees)
    asked_each-taken (Trees.more tree trees) inner own enough some =
        let rest = asked_by is_function trees in
        let many = length-append (asked tree) rest in
        let left = length-drop (length (asked tree)) inner in
        let others = asked_each-taken trees (left_after (asked tree) inner) own
        (omega (arith, many, left)) some in
        grind (arith, taken_both, asked-taken tree inner (omega (arith, many)), others)

  pub asked-answered : (tree : Tree X) (answers : List T)
      → length answers ≡ length (asked tree) → asked (answered otherwise tree answers) ≡ answers
  asked-answered tree answers many = grind (arith, asked-taken, take_all)
