-- Steps that are read with a stack leave what is folded of their tree on it.
use Rattle.std.proofs.Common.{◌≡◌, ◌+◌, ◌≤◌, ◌<◌, ◌++◌, ℕ, suc, Bool, true, false, List, [], ◌∷◌}
use Rattle.std.proofs.Common.{length, take, drop, Option, Some, None, option_and_then, ap}
use Rattle.std.proofs.Common.{refl, sym, ◌∙◌, arith, append_assoc, length-append}
use Rattle.std.proofs.Common.{if◌then◌else◌}
use Rattle.std.proofs.lemmas.{Bool.le-leb, List.{drop_at, length-drop, take_at}}
use Rattle.std.proofs.lemmas.{List.append-nil, Option.slice_get-get_or}
use Rattle.std.specs.{List.{filter_map, slice_get}, Prelude.nat_le}
use Rattle.cfgx_grammar.specs.Tree.{ListFunction, Tree, Trees, asked, asked_by, count, is_function}
use Rattle.cfgx_grammar.specs.Tree.{is_leaf}
use Rattle.cfgx_grammar.proofs.ListLemmas.{all_of_first, all_of_second}
use Rattle.cfgx_parser.specs.Order.{func_members, list_func}
use Rattle.cfgx_parser.specs.declared.function.Func.{Func}
use Rattle.cfgx_parser.specs.declared.function.Func.TheVariants.{Not}
use Rattle.cfg_expr.specs.Fold.{Operations, answered, from_last, literal_value}
use Rattle.cfg_expr.specs.Fold.{tree_map, tree_value, trees_map, values_by}
use Rattle.cfg_expr.specs.StepStack.{Algebra, Entry, JoinsInAnyOrder, after_step, after_steps}
use Rattle.cfg_expr.specs.StepStack.{as_eval, as_written, folded, folded_each, from_first}
use Rattle.cfg_expr.specs.StepStack.{of_function, of_leaf}
use Rattle.cfg_expr.specs.Steps.{answer_at, numbered, steps, steps_each, steps_of}
use Rattle.cfg_expr.specs.declared.expr.steps.Step.{Step}
use Rattle.cfg_expr.specs.declared.expr.steps.Step.TheVariants.{Ask, Literal, Function}
use Rattle.cfg_expr.proofs.stepped.Items.{Inside}
use Rattle.cfg_expr.proofs.stepped.Numbers.{given-numbered, numbers-inside}

module _ {T S : Type 0} (logic : Operations T) (algebra : Algebra T S) (answers : List T) where
  abbrev given : Tree ℕ → Tree T
  given = tree_map (answer_at logic answers)

  abbrev given_each : Trees ℕ → Trees T
  given_each = trees_map (answer_at logic answers)

  length-folded_each : (trees : Trees ℕ)
      → length (folded_each algebra (given_each trees)) ≡ count trees
  length-folded_each Trees.none = refl
  length-folded_each (Trees.more tree trees) = ap suc (length-folded_each trees)

  count-given : (trees : Trees ℕ) → count (given_each trees) ≡ count trees
  count-given Trees.none = refl
  count-given (Trees.more tree trees) = ap suc (count-given trees)

  members-counted : (function : ListFunction) (n : ℕ) → func_members (list_func function n) ≡ n
  members-counted ListFunction.all n = refl
  members-counted ListFunction.any n = refl

  -- a function whose members are on top
  after-function : (func : Func) (top stack : List S) → func_members func ≡ length top
      → after_step algebra answers (Function func) (top ++ stack)
      ≡ Some (algebra.function func top ∷ stack)
  after-function func top stack many = rw (
    many,
    le-leb (length top) (length (top ++ stack)) (omega (arith, length-append top stack)),
    take_at top stack (length top) refl,
    drop_at top stack (length top) refl,
  ) refl

  mutual
    after-tree : (tree : Tree ℕ) → Inside logic answers (asked tree) → (rest : List Step)
        → (stack left : List S) → after_steps algebra answers rest stack ≡ Some left
        → after_steps algebra answers (steps tree ++ rest) stack
        ≡ Some (folded algebra (given tree) ∷ left)
    after-tree (Tree.leaf number) inside rest stack left is =
        rw (is, slice_get-get_or answers number logic.top inside.0) refl
    after-tree (Tree.literal truth) inside rest stack left is = rw is refl
    after-tree (Tree.list function trees) inside rest stack left is =
        let below = after-trees trees
        (all_of_first _ (asked_by is_function trees) _ inside)
        (all_of_second _ (asked_by is_function trees) _ inside) rest stack left is in
        let func = list_func function (count trees) in
        let members = folded_each algebra (given_each trees) in
        ap (option_and_then (after_step algebra answers (Function func))) below
        ∙ after-function func members left
        (members-counted function (count trees) ∙ sym (length-folded_each trees))
        ∙ ap (λ n. Some (algebra.function (list_func function n) members ∷ left))
        (sym (count-given trees))
    after-tree (Tree.not tree) inside rest stack left is =
        rw (after-tree tree inside rest stack left is)
        (after-function Not (folded algebra (given tree) ∷ []) left refl)

    after-trees : (trees : Trees ℕ) → Inside logic answers (asked_by is_function trees)
        → Inside logic answers (asked_by is_leaf trees) → (rest : List Step)
        → (stack left : List S) → after_steps algebra answers rest stack ≡ Some left
        → after_steps algebra answers (steps_each trees ++ rest) stack
        ≡ Some (folded_each algebra (given_each trees) ++ left)
    after-trees Trees.none inner own rest stack left is = is
    after-trees (Trees.more (Tree.leaf number) trees) inner own rest stack left is =
        rw (
          after-trees trees inner own.1 rest stack left is,
          slice_get-get_or answers number logic.top own.0,
        ) refl
    after-trees (Trees.more (Tree.literal truth) trees) inner own rest stack left is =
        rw (after-trees trees inner own rest stack left is) refl
    after-trees (Trees.more tree trees) inner own rest stack left is =
        ap (λ l. after_steps algebra answers l stack)
        (append_assoc (steps tree) (steps_each trees) rest)
        ∙ after-tree tree (all_of_first _ (asked tree) _ inner) (steps_each trees ++ rest) stack _
        (after-trees trees (all_of_second _ (asked tree) _ inner) own rest stack left is)

  -- a stack is not higher than that before it and the number of steps that were read
  height-step : (step : Step) (below stack : List S)
      → after_step algebra answers step below ≡ Some stack → length stack ≤ 1 + length below
  height-step (Ask number) below stack is = by (slice_get answers number) refl where
    by : (found : Option T) → slice_get answers number ≡ found → length stack ≤ 1 + length below
    by None found_is = absurd (cc (rw found_is at is))
    by (Some answer) found_is =
        let stack_is : algebra.answer answer ∷ below ≡ stack = cc (rw found_is at is) in
        omega (arith, ap length stack_is)
  height-step (Literal truth) below stack is =
      let stack_is : algebra.literal truth ∷ below ≡ stack = cc (is) in
      omega (arith, ap length stack_is)
  height-step (Function func) below stack is =
      by (nat_le (func_members func) (length below)) refl where
        by : (enough : Bool) → nat_le (func_members func) (length below) ≡ enough
            → length stack ≤ 1 + length below
        by false enough_is = absurd (cc (rw enough_is at is))
        by true enough_is =
            let stack_is : algebra.function func (take (func_members func) below)
            ∷ drop (func_members func) below ≡ stack = cc (rw enough_is at is) in
            omega (arith, ap length stack_is, length-drop (func_members func) below)

  height-more : (step : Step) (n : ℕ) (found : Option (List S)) (left : List S)
      → ((below : List S) → found ≡ Some below → length below ≤ n)
      → option_and_then (after_step algebra answers step) found ≡ Some left → length left ≤ 1 + n
  height-more step n None left under is = absurd (cc (is))
  height-more step n (Some below) left under is =
      omega (arith, under below refl, height-step step below left is)

  height : (all : List Step) (stack left : List S)
      → after_steps algebra answers all stack ≡ Some left
      → length left ≤ length all + length stack
  height [] stack left is =
      let same : stack ≡ left = cc (is) in omega (arith, ap length same)
  height (step ∷ all) stack left is = omega (
    arith,
    height-more step (length all + length stack) (after_steps algebra answers all stack) left
        (λ below found. height all stack below found) is,
  )

  -- a stack that is left was left by the last steps too
  left-below : (step : Step) (found : Option (List S)) (left : List S)
      → option_and_then (after_step algebra answers step) found ≡ Some left
      → (below : List S) × (found ≡ Some below)
  left-below step None left is = absurd (cc (is))
  left-below step (Some below) left is = (below, refl)

  left-behind : (front rest : List Step) (stack left : List S)
      → after_steps algebra answers (front ++ rest) stack ≡ Some left
      → (below : List S) × (after_steps algebra answers rest stack ≡ Some below)
  left-behind [] rest stack left is = (left, is)
  left-behind (step ∷ front) rest stack left is =
      let next = left-below step (after_steps algebra answers (front ++ rest) stack) left is in
      left-behind front rest stack next.0 next.1

  pub after-steps_of : {X : Type 0} (tree : Tree X) (stack : List S)
      → length answers ≡ length (asked tree)
      → after_steps algebra answers (steps_of tree) stack
      ≡ Some (folded algebra (answered logic.top tree answers) ∷ stack)
  after-steps_of tree stack many =
      ap (λ l. after_steps algebra answers l stack) (sym (append-nil (steps_of tree)))
      ∙ after-tree (numbered tree) (numbers-inside logic tree answers many) [] stack stack refl
      ∙ ap (λ given. Some (folded algebra given ∷ stack)) (given-numbered logic tree answers many)

  pub stack-of-rest : {X : Type 0} (tree : Tree X) (stack : List S) (front rest : List Step)
      → length answers ≡ length (asked tree) → steps_of tree ≡ front ++ rest
      → (left : List S) × (after_steps algebra answers rest stack ≡ Some left)
      × (length left ≤ length rest + length stack)
  stack-of-rest tree stack front rest many is =
      let all = folded algebra (answered logic.top tree answers) ∷ stack in
      let found = left-behind front rest stack all
      (ap (λ l. after_steps algebra answers l stack) (sym is) ∙ after-steps_of tree stack many) in
      (found.0, found.1, height rest stack found.0 found.1)

module _ {T : Type 0} (logic : Operations T) where
  -- the entry of a tree
  abbrev pub entry_of : Tree T → Entry T
  entry_of tree = record { is_function = is_function tree; value = tree_value logic tree }

  mutual
    pub folded-as_eval : (tree : Tree T) → folded (as_eval logic) tree ≡ entry_of tree
    folded-as_eval (Tree.leaf answer) = refl
    folded-as_eval (Tree.literal truth) = refl
    folded-as_eval (Tree.list ListFunction.all trees) =
        let values = values-as_eval trees in rw (values.0, values.1) refl
    folded-as_eval (Tree.list ListFunction.any trees) =
        let values = values-as_eval trees in rw (values.0, values.1) refl
    folded-as_eval (Tree.not tree) = rw (folded-as_eval tree) refl

    values-as_eval : (trees : Trees T)
        → (filter_map of_function (folded_each (as_eval logic) trees)
        ≡ values_by logic is_function trees)
        × (filter_map of_leaf (folded_each (as_eval logic) trees) ≡ values_by logic is_leaf trees)
    values-as_eval Trees.none = (refl, refl)
    values-as_eval (Trees.more (Tree.leaf answer) trees) =
        let others = values-as_eval trees in (rw others.0 refl, rw others.1 refl)
    values-as_eval (Trees.more (Tree.literal truth) trees) =
        let others = values-as_eval trees in (rw others.0 refl, rw others.1 refl)
    values-as_eval (Trees.more tree trees) =
        let others = values-as_eval trees in
        let first = folded-as_eval tree in
        let rest = folded_each (as_eval logic) trees in (
          ap (λ entry. filter_map of_function (entry ∷ rest)) first
              ∙ ap (λ values. tree_value logic tree ∷ values) others.0,
          ap (λ entry. filter_map of_leaf (entry ∷ rest)) first ∙ others.1,
        )

module _ {T : Type 0} (join : T → T → T) (any_order : JoinsInAnyOrder join) where
  -- the value that is joined first may be joined last
  from_first-join : (begin value : T) (values : List T)
      → from_first join (join begin value) values ≡ join (from_first join begin values) value
  from_first-join begin value [] = refl
  from_first-join begin value (next ∷ values) =
      let swapped : join (join begin value) next ≡ join (join begin next) value =
      any_order.1 begin value next ∙ ap (join begin) (any_order.0 value next)
      ∙ sym (any_order.1 begin next value) in
      ap (λ x. from_first join x values) swapped ∙ from_first-join (join begin next) value values

  from_last-join : (begin : T) (front back : List T) (value : T)
      → from_last join begin (front ++ value ∷ back)
      ≡ join (from_last join begin (front ++ back)) value
  from_last-join begin [] back value = refl
  from_last-join begin (first ∷ front) back value =
      let rest = from_last join begin (front ++ back) in
      ap (λ x. join x first) (from_last-join begin front back value)
      ∙ any_order.1 rest value first ∙ ap (join rest) (any_order.0 value first)
      ∙ sym (any_order.1 rest first value)

  -- the members as they stand in the text, joined from the first on, or functions first, joined
  -- from the last back
  pub any-order : (logic : Operations T) (begin : T) (trees : Trees T)
      → from_first join begin (values_by logic (λ _. true) trees)
      ≡ from_last join begin (values_by logic is_function trees ++ values_by logic is_leaf trees)
  any-order logic begin Trees.none = refl
  any-order logic begin (Trees.more (Tree.leaf answer) trees) =
      from_first-join begin answer (values_by logic (λ _. true) trees)
      ∙ ap (λ x. join x answer) (any-order logic begin trees)
      ∙ sym (from_last-join begin (values_by logic is_function trees)
      (values_by logic is_leaf trees) answer)
  any-order logic begin (Trees.more (Tree.literal truth) trees) =
      from_first-join begin (literal_value logic truth) (values_by logic (λ _. true) trees)
      ∙ ap (λ x. join x (literal_value logic truth)) (any-order logic begin trees)
      ∙ sym (from_last-join begin (values_by logic is_function trees)
      (values_by logic is_leaf trees) (literal_value logic truth))
  any-order logic begin (Trees.more tree trees) =
      from_first-join begin (tree_value logic tree) (values_by logic (λ _. true) trees)
      ∙ ap (λ x. join x (tree_value logic tree)) (any-order logic begin trees)

module _ {T : Type 0} (logic : Operations T) (and : JoinsInAnyOrder logic.and)
    (or : JoinsInAnyOrder logic.or) where
  mutual
    pub folded-as_written : (tree : Tree T) → folded (as_written logic) tree
        ≡ tree_value logic tree
    folded-as_written (Tree.leaf answer) = refl
    folded-as_written (Tree.literal truth) = refl
    folded-as_written (Tree.list ListFunction.all trees) =
        ap (from_first logic.and logic.top) (values-as_written trees)
        ∙ any-order logic.and and logic logic.top trees
    folded-as_written (Tree.list ListFunction.any trees) =
        ap (from_first logic.or logic.bottom) (values-as_written trees)
        ∙ any-order logic.or or logic logic.bottom trees
    folded-as_written (Tree.not tree) = ap logic.not (folded-as_written tree)

    values-as_written : (trees : Trees T)
        → folded_each (as_written logic) trees ≡ values_by logic (λ _. true) trees
    values-as_written Trees.none = refl
    values-as_written (Trees.more tree trees) =
        rw (folded-as_written tree, values-as_written trees) refl
