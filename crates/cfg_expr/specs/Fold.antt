-- The value of a tree whose predicates have answers in some logic.
-- Source: the crate cfg-expr's `Expression::eval`, where `all` begins with `top` and `any` with
-- `bottom`, and the members are joined from the last back to the first; the Rust Reference's
-- conditional compilation, where `all()` is true and `any()` is false.
use Rattle.std.specs.Prelude.{Bool, true, false, List, [], ◌∷◌, ◌++◌, length, drop, if◌then◌else◌}
pub use Rattle.cfgx_syntax.specs.declared.logic.Logic.{Ghosts as Operations}
use Rattle.cfgx_grammar.specs.Tree.{ListFunction, Tree, Trees, is_function, is_leaf, asked}
use Rattle.cfgx_grammar.specs.Tree.{asked_by}

-- `begin` joined with the values one after another, from the last one to the first
abbrev pub from_last : {T : Type 0} → (T → T → T) → T → List T → T
from_last join begin [] = begin
from_last join begin (value ∷ values) = join (from_last join begin values) value

-- the value of `all` or `any` over the values of its members, functions first
abbrev pub list_value : {T : Type 0} → Operations T → ListFunction → List T → T
list_value logic ListFunction.all values = from_last logic.and logic.top values
list_value logic ListFunction.any values = from_last logic.or logic.bottom values

-- the value of a literal
abbrev pub literal_value : {T : Type 0} → Operations T → Bool → T
literal_value logic true = logic.top
literal_value logic false = logic.bottom

-- the value of a tree of answers, in which the functions of a list come before its leaves
abbrev mutual
  pub tree_value : {T : Type 0} → Operations T → Tree T → T
  tree_value logic (Tree.leaf answer) = answer
  tree_value logic (Tree.literal truth) = literal_value logic truth
  tree_value logic (Tree.list function trees) = list_value logic function
      (values_by logic is_function trees ++ values_by logic is_leaf trees)
  tree_value logic (Tree.not tree) = logic.not (tree_value logic tree)

  -- the values of the trees of a list that pass the test
  pub values_by : {T : Type 0} → Operations T → (Tree T → Bool) → Trees T → List T
  values_by logic test Trees.none = []
  values_by logic test (Trees.more tree trees) = if test tree
      then tree_value logic tree ∷ values_by logic test trees else values_by logic test trees

-- the values of all trees of a list
abbrev pub values_of : {T : Type 0} → Operations T → Trees T → List T
values_of logic trees = values_by logic (λ _. true) trees

abbrev mutual
  -- the tree with `f` of each leaf
  pub tree_map : {X Y : Type 0} → (X → Y) → Tree X → Tree Y
  tree_map f (Tree.leaf x) = Tree.leaf (f x)
  tree_map f (Tree.literal truth) = Tree.literal truth
  tree_map f (Tree.list function trees) = Tree.list function (trees_map f trees)
  tree_map f (Tree.not tree) = Tree.not (tree_map f tree)

  pub trees_map : {X Y : Type 0} → (X → Y) → Trees X → Trees Y
  trees_map f Trees.none = Trees.none
  trees_map f (Trees.more tree trees) = Trees.more (tree_map f tree) (trees_map f trees)

-- the first of the answers, or `otherwise` if there is none
abbrev pub first_or : {T : Type 0} → T → List T → T
first_or otherwise [] = otherwise
first_or otherwise (answer ∷ answers) = answer

-- the answers that are left after each question has taken one
abbrev pub left_after : {X T : Type 0} → List X → List T → List T
left_after questions answers = drop (length questions) answers

-- the answers that no member of a list has taken yet: those for its functions and for its leaves
pub record Left (T : Type 0) : Type 0 where
  pub functions : List T
  pub leaves : List T

-- the list from which a member takes its answers
abbrev pub left_for : {X T : Type 0} → Tree X → Left T → List T
left_for tree left = if is_function tree then left.functions else left.leaves

-- what is left after a member has taken its answers
abbrev pub left_by : {X T : Type 0} → Tree X → Left T → Left T
left_by tree left = if is_function tree
    then record left { functions = left_after (asked tree) left.functions }
    else record left { leaves = left_after (asked tree) left.leaves }

-- The answers for the functions and for the leaves of a list. The functions take theirs first.
abbrev pub left_to : {X T : Type 0} → Trees X → List T → Left T
left_to trees answers = record {
  functions = answers;
  leaves = left_after (asked_by is_function trees) answers;
}

-- The tree in which an answer replaces each predicate. The answers are taken in the order in which
-- the tree asks; a predicate for which none is left has the answer `otherwise`.
abbrev mutual
  pub answered : {X T : Type 0} → T → Tree X → List T → Tree T
  answered otherwise (Tree.leaf x) answers = Tree.leaf (first_or otherwise answers)
  answered otherwise (Tree.literal truth) answers = Tree.literal truth
  answered otherwise (Tree.list function trees) answers =
      Tree.list function (answered_each otherwise trees (left_to trees answers))
  answered otherwise (Tree.not tree) answers = Tree.not (answered otherwise tree answers)

  -- the members of a list with answers, one after another
  pub answered_each : {X T : Type 0} → T → Trees X → Left T → Trees T
  answered_each otherwise Trees.none left = Trees.none
  answered_each otherwise (Trees.more tree trees) left = Trees.more
      (answered otherwise tree (left_for tree left))
      (answered_each otherwise trees (left_by tree left))

-- the value of a tree over answers to its predicates
abbrev pub tree_fold : {X T : Type 0} → Operations T → Tree X → List T → T
tree_fold logic tree answers = tree_value logic (answered logic.top tree answers)
