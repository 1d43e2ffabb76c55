-- Steps that a loop of a caller's own reads, from the last to the first, with a stack. The values on
-- it may be of any type, such as truth values, costs, sets of features or trees.
-- Source: Polish notation, in which a function stands in front of its members; a fold of a tree
-- over an algebra.
use Rattle.std.specs.Prelude.{◌≡◌, ◌++◌, Bool, false, true, List, [], ◌∷◌, drop, length, map}
use Rattle.std.specs.Prelude.{Option, None, Some, if◌then◌else◌, nat_le, option_and_then}
use Rattle.std.specs.Prelude.{option_map, take}
use Rattle.std.specs.List.{filter_map, slice_get}
use Rattle.cfgx_grammar.specs.Tree.{ListFunction, Tree, Trees, count, is_function}
use Rattle.cfgx_parser.specs.Order.{func_members, list_func}
use Rattle.cfgx_parser.specs.declared.function.Func.{Func}
use Rattle.cfgx_parser.specs.declared.function.Func.TheVariants.{Not, All, Any}
use Rattle.cfg_expr.specs.Fold.{Operations, from_last, list_value, literal_value, tree_value}
use Rattle.cfg_expr.specs.declared.expr.steps.Step.{Step}
use Rattle.cfg_expr.specs.declared.expr.steps.Step.TheVariants.{Ask, Literal, Function}

-- what a loop pushes: for an answer, for a literal, and for a function over the values of its
-- members, that of the first member first
pub record Algebra (T S : Type 0) : Type 0 where
  pub answer : T → S
  pub literal : Bool → S
  pub function : Func → List S → S

module _ {T S : Type 0} (algebra : Algebra T S) where
  -- what is pushed for a tree of answers, and for each tree of a list
  abbrev mutual
    pub folded : Tree T → S
    folded (Tree.leaf answer) = algebra.answer answer
    folded (Tree.literal truth) = algebra.literal truth
    folded (Tree.list function trees) =
        algebra.function (list_func function (count trees)) (folded_each trees)
    folded (Tree.not tree) = algebra.function Not (folded tree ∷ [])

    pub folded_each : Trees T → List S
    folded_each Trees.none = []
    folded_each (Trees.more tree trees) = folded tree ∷ folded_each trees

  -- The stack after a step, with its top in front. A function pops the values of its members. There
  -- is no such stack if the answer is missing, or if there are too few values.
  abbrev pub after_step : List T → Step → List S → Option (List S)
  after_step answers (Ask number) stack =
      option_map (λ answer. algebra.answer answer ∷ stack) (slice_get answers number)
  after_step answers (Literal truth) stack = Some (algebra.literal truth ∷ stack)
  after_step answers (Function func) stack = if nat_le (func_members func) (length stack)
      then Some (algebra.function func (take (func_members func) stack)
      ∷ drop (func_members func) stack) else None

  -- the stack after all steps, of which the last one is read first
  abbrev pub after_steps : List T → List Step → List S → Option (List S)
  after_steps answers [] stack = Some stack
  after_steps answers (step ∷ steps) stack =
      option_and_then (after_step answers step) (after_steps answers steps stack)

-- the value of a tree, and whether the tree is a function
pub record Entry (T : Type 0) : Type 0 where
  pub is_function : Bool
  pub value : T

-- the value of the entry, if it is a function's; if it is a leaf's
abbrev pub of_function : {T : Type 0} → Entry T → Option T
of_function entry = if entry.is_function then Some entry.value else None

abbrev pub of_leaf : {T : Type 0} → Entry T → Option T
of_leaf entry = if entry.is_function then None else Some entry.value

module _ {T : Type 0} (logic : Operations T) where
  -- the value of a function whose members are joined in the order of `eval`
  abbrev pub joined_as_eval : Func → List (Entry T) → T
  joined_as_eval Not [] = logic.top
  joined_as_eval Not (member ∷ members) = logic.not member.value
  joined_as_eval (All n) members = list_value logic ListFunction.all
      (filter_map of_function members ++ filter_map of_leaf members)
  joined_as_eval (Any n) members = list_value logic ListFunction.any
      (filter_map of_function members ++ filter_map of_leaf members)

  -- values of a logic, joined in the order of `eval`
  abbrev pub as_eval : Algebra T (Entry T)
  as_eval = record {
    answer = λ value. record { is_function = false; value = value };
    literal = λ truth. record { is_function = false; value = literal_value logic truth };
    function = λ func members. record {
      is_function = true;
      value = joined_as_eval func members;
    };
  }

-- `begin` joined with the values one after another, from the first one to the last
abbrev pub from_first : {T : Type 0} → (T → T → T) → T → List T → T
from_first join begin [] = begin
from_first join begin (value ∷ values) = from_first join (join begin value) values

-- values may be joined in any order
abbrev pub JoinsInAnyOrder : {T : Type 0} → (T → T → T) → Type 0
JoinsInAnyOrder join = ((x y : _) → join x y ≡ join y x)
    × ((x y z : _) → join (join x y) z ≡ join x (join y z))

module _ {T : Type 0} (logic : Operations T) where
  -- the value of a function whose members are joined as they stand in the text
  abbrev pub joined_as_written : Func → List T → T
  joined_as_written Not [] = logic.top
  joined_as_written Not (member ∷ members) = logic.not member
  joined_as_written (All n) members = from_first logic.and logic.top members
  joined_as_written (Any n) members = from_first logic.or logic.bottom members

  -- values of a logic, joined as they stand in the text
  abbrev pub as_written : Algebra T T
  as_written = record {
    answer = λ value. value;
    literal = literal_value logic;
    function = joined_as_written;
  }
