-- A condition as steps, which are the nodes of its tree, and the value of steps over answers.
-- Source: Polish notation, in which a function stands in front of its members.
use Rattle.std.specs.Prelude.{◌≡◌, ◌≢◌, ◌<◌, ◌++◌, ℕ, Bool, List, [], ◌∷◌, count_by, false}
use Rattle.std.specs.Prelude.{get_or, length, map, nat_eq, true}
use Rattle.std.specs.{Cmp.Lexicographic.pointwise, Ordering.on}
use Rattle.std.specs.List.{AllByRecursion, range_with_len}
use Rattle.cfgx_grammar.specs.Answer.{HasOneTree}
use Rattle.cfgx_grammar.specs.Tree.{Tree, Trees, asked, count}
use Rattle.cfgx_parser.specs.Order.{list_func}
use Rattle.cfgx_parser.specs.declared.function.Func.TheVariants.{Not, All, Any}
use Rattle.cfg_expr.specs.Fold.{Operations, answered, tree_map, tree_value}
use Rattle.cfg_expr.specs.declared.expr.steps.Step.{Step}
use Rattle.cfg_expr.specs.declared.expr.steps.Step.TheVariants.{Ask, Literal, Function}
use Rattle.cfg_expr.specs.declared.expr.steps.StepsError.{StepsError}
use Rattle.cfg_expr.specs.declared.expr.steps.StepsError.TheVariants as error

-- a list that no other step has: the number of the case, and then the number that the step has
abbrev pub step_code : Step → List ℕ
step_code (Ask number) = 0 ∷ number ∷ []
step_code (Literal false) = 1 ∷ []
step_code (Literal true) = 2 ∷ []
step_code (Function Not) = 3 ∷ []
step_code (Function (All n)) = 4 ∷ n ∷ []
step_code (Function (Any n)) = 5 ∷ n ∷ []

-- whether two steps are the same
abbrev pub step_eq : Step → Step → Bool
step_eq = on step_code (pointwise nat_eq)

-- the steps of a tree of numbers, as its nodes stand in the text: the step of a function, and then
-- those of its members
abbrev mutual
  pub steps : Tree ℕ → List Step
  steps (Tree.leaf number) = Ask number ∷ []
  steps (Tree.literal truth) = Literal truth ∷ []
  steps (Tree.list function trees) = Function (list_func function (count trees)) ∷ steps_each trees
  steps (Tree.not tree) = Function Not ∷ steps tree

  pub steps_each : Trees ℕ → List Step
  steps_each Trees.none = []
  steps_each (Trees.more tree trees) = steps tree ++ steps_each trees

-- the tree with the numbers of its predicates: 0, 1, 2 and so on, in the order in which it asks
abbrev pub numbered : {X : Type 0} → Tree X → Tree ℕ
numbered tree = let count = length (asked tree) in answered count tree (range_with_len 0 count)

-- the steps of a tree
abbrev pub steps_of : {X : Type 0} → Tree X → List Step
steps_of tree = steps (numbered tree)

-- the steps of the text's one tree
abbrev pub AreSteps : List ℕ → List Step → Type 0
AreSteps text steps = (one : HasOneTree text) × (steps ≡ steps_of one.tree)

-- these are the steps of the text's one tree in this form
abbrev pub AreStepsAs : {T : Type 0} → (Step → T) → List ℕ → List T → Type 0
AreStepsAs form text steps = (one : HasOneTree text) × (steps ≡ map form (steps_of one.tree))

-- the text's one tree has `n` steps
abbrev pub HasSteps : List ℕ → ℕ → Type 0
HasSteps text n = (one : HasOneTree text) × (n ≡ length (steps_of one.tree))

-- whether a step asks for an answer
abbrev pub is_ask : Step → Bool
is_ask (Ask number) = true
is_ask (Literal truth) = false
is_ask (Function func) = false

-- there are as many answers as steps that ask
abbrev pub AreCounted : {T : Type 0} → List Step → List T → Type 0
AreCounted all answers = length answers ≡ count_by is_ask all

module _ {T : Type 0} (logic : Operations T) where
  -- the answer that has this number, counted from 0
  abbrev pub answer_at : List T → ℕ → T
  answer_at answers number = get_or answers number logic.top

  -- The steps are those of a tree, each number in it is that of an answer, and this is the value of
  -- the tree with the answers in place of their numbers.
  pub record HasValue (all : List Step) (answers : List T) (value : T) : Type 0 where
    pub tree : Tree ℕ
    pub are : all ≡ steps tree
    pub inside : AllByRecursion (λ number. number < length answers) (asked tree)
    pub value_is : value ≡ tree_value logic (tree_map (answer_at answers) tree)

  -- why steps have no value over answers
  abbrev pub Fail : List Step → List T → StepsError → Type 0
  Fail all answers error.Miscounted = length answers ≢ count_by is_ask all
  Fail all answers error.NoValue =
      AreCounted all answers × ((value : T) → HasValue all answers value → ⊥)
  Fail all answers (error.Memory refused) = 33 < length all
