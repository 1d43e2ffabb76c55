-- Steps that leave a stack are those of as many trees.
use Rattle.std.proofs.Common.{◌≡◌, ◌+◌, ◌≤◌, ◌++◌, ℕ, zero, suc, Bool, List, [], ◌∷◌}
use Rattle.std.proofs.Common.{length, map, Option, Some, None, ap, refl, sym, ◌∙◌, arith}
use Rattle.std.proofs.Common.{append_assoc, drop, option_and_then, take, true, false}
use Rattle.std.proofs.Common.{if◌then◌else◌}
use Rattle.std.proofs.lemmas.Bool.{leb-true}
use Rattle.std.proofs.lemmas.{List.{append-nil, length-drop}, Option.slice_get_within}
use Rattle.std.specs.{List.slice_get, Prelude.nat_le}
use Rattle.cfgx_grammar.specs.Tree.{ListFunction, Tree, Trees, asked, asked_by, count, is_function}
use Rattle.cfgx_grammar.specs.Tree.{is_leaf}
use Rattle.cfgx_grammar.proofs.ListLemmas.{all_of_both}
use Rattle.cfgx_parser.specs.Order.{func_members}
use Rattle.cfgx_parser.specs.declared.function.Func.{Func}
use Rattle.cfgx_parser.specs.declared.function.Func.TheVariants.{Not, All, Any}
use Rattle.cfg_expr.specs.Fold.{Operations, literal_value, tree_map, tree_value}
use Rattle.cfg_expr.specs.Steps.{HasValue, answer_at, steps, steps_each}
use Rattle.cfg_expr.specs.declared.expr.steps.Step.{Step}
use Rattle.cfg_expr.specs.declared.expr.steps.Step.TheVariants.{Ask, Literal, Function}
use Rattle.cfg_expr.specs.nodes.Reading.{Item, Slot, answer_item, applied, apply, push_item, read}
use Rattle.cfg_expr.specs.nodes.Reading.{step_item, steps_value, value_alone}
use Rattle.cfg_expr.specs.declared.expr.evaluating.Slot.TheVariants as slot
use Rattle.cfg_expr.proofs.stepped.Items.{Inside, steps_value-tree}

module _ {T : Type 0} (logic : Operations T) (answers : List T) where
  -- each tree asks for answers that are there
  abbrev InsideEach : Trees ℕ → Type 0
  InsideEach Trees.none = Unit {0}
  InsideEach (Trees.more tree trees) = Inside logic answers (asked tree) × InsideEach trees

  inside-member : (passes : Bool) (one others : List ℕ) → Inside logic answers one
      → Inside logic answers others
      → Inside logic answers ((if passes then one else []) ++ others)
  inside-member true one others first rest = all_of_both _ one others first rest
  inside-member false one others first rest = rest

  inside-list : (test : Tree ℕ → Bool) (trees : Trees ℕ) → InsideEach trees
      → Inside logic answers (asked_by test trees)
  inside-list test Trees.none inside = tt
  inside-list test (Trees.more tree trees) inside =
      inside-member (test tree) (asked tree) (asked_by test trees) inside.0
      (inside-list test trees inside.1)

  -- these are the steps of this number of trees
  record Forest (all : List Step) (many : ℕ) : Type 0 where
    trees : Trees ℕ
    are : steps_each trees ≡ all
    counted : count trees ≡ many
    inside : InsideEach trees

  forest-more : (tree : Tree ℕ) (own all : List Step) (many total : ℕ) → steps tree ≡ own
      → Inside logic answers (asked tree) → Forest all many → total ≡ many + 1
      → Forest (own ++ all) total
  forest-more tree own all many total is inside forest next = record {
    trees = Trees.more tree forest.trees;
    are = rw (is, forest.are) refl;
    counted = omega (arith, forest.counted, next);
    inside = (inside, forest.inside);
  }

  -- the first of the trees, and those behind them
  record Split (trees : Trees ℕ) (many : ℕ) : Type 0 where
    front : Trees ℕ
    back : Trees ℕ
    are : steps_each trees ≡ steps_each front ++ steps_each back
    front_counted : count front ≡ many
    back_counted : count back + many ≡ count trees
    front_inside : InsideEach front
    back_inside : InsideEach back

  split : (trees : Trees ℕ) (many : ℕ) → InsideEach trees → many ≤ count trees → Split trees many
  split trees zero inside enough = record {
    front = Trees.none;
    back = trees;
    are = refl;
    front_counted = refl;
    back_counted = omega arith;
    front_inside = tt;
    back_inside = inside;
  }
  split Trees.none (suc many) inside enough = absurd (omega (arith, enough))
  split (Trees.more tree trees) (suc many) inside enough =
      let rest = split trees many inside.1 (omega (arith, enough)) in
      record {
        front = Trees.more tree rest.front;
        back = rest.back;
        are = ap (λ l. steps tree ++ l) rest.are
            ∙ sym (append_assoc (steps tree) (steps_each rest.front) (steps_each rest.back));
        front_counted = ap suc rest.front_counted;
        back_counted = omega (arith, rest.back_counted);
        front_inside = (inside.0, rest.front_inside);
        back_inside = rest.back_inside;
      }

  -- the tree of a function and its members
  headed-by : (func : Func) (members : Trees ℕ) → count members ≡ func_members func
      → InsideEach members → (tree : Tree ℕ) × (steps tree ≡ Function func ∷ steps_each members)
      × Inside logic answers (asked tree)
  headed-by Not Trees.none many inside = absurd (omega (arith, many))
  headed-by Not (Trees.more tree Trees.none) many inside =
      (Tree.not tree, ap (λ l. Function Not ∷ l) (sym (append-nil (steps tree))), inside.0)
  headed-by Not (Trees.more tree (Trees.more other trees)) many inside =
      absurd (omega (arith, many))
  headed-by (All n) members many inside = (
    Tree.list ListFunction.all members,
    rw many refl,
    all_of_both _ (asked_by is_function members) (asked_by is_leaf members)
        (inside-list is_function members inside) (inside-list is_leaf members inside),
  )
  headed-by (Any n) members many inside = (
    Tree.list ListFunction.any members,
    rw many refl,
    all_of_both _ (asked_by is_function members) (asked_by is_leaf members)
        (inside-list is_function members inside) (inside-list is_leaf members inside),
  )

  forest-function : (func : Func) (all : List Step) (many total : ℕ) → Forest all many
      → func_members func ≤ many → total + func_members func ≡ many + 1
      → Forest (Function func ∷ all) total
  forest-function func all many total forest enough is =
      let cut = split forest.trees (func_members func) forest.inside
      (omega (arith, enough, forest.counted)) in
      let (tree, are, inside) = headed-by func cut.front cut.front_counted cut.front_inside in
      let rest : Forest (steps_each cut.back) (count cut.back) = record {
        trees = cut.back;
        are = refl;
        counted = refl;
        inside = cut.back_inside;
      } in
      rw (← forest.are, cut.are) (forest-more tree _ _ _ total are inside rest
      (omega (arith, is, cut.back_counted, forest.counted)))

  -- what is below a step, if it leaves a stack
  record Pushes (item : Item T) (before : Option (List (Slot T))) (stack : List (Slot T)) : Type 0
    where
      below : List (Slot T)
      is : before ≡ Some below
      pushes : push_item logic item below ≡ Some stack

  pushed : (item : Item T) (before : Option (List (Slot T))) (stack : List (Slot T))
      → option_and_then (push_item logic item) before ≡ Some stack → Pushes item before stack
  pushed item None stack is = absurd (cc (is))
  pushed item (Some below) stack is = record { below = below; is = refl; pushes = is }

  apply-some : (func : Func) (below stack : List (Slot T)) → apply logic func below ≡ Some stack
      → (func_members func ≤ length below) × (length stack + func_members func ≡ length below + 1)
  apply-some func below stack is = by (nat_le (func_members func) (length below))
      (applied logic func (take (func_members func) below)) refl refl where
        by : (enough : Bool) (value : Option T) → nat_le (func_members func) (length below) ≡ enough
            → applied logic func (take (func_members func) below) ≡ value
            → (func_members func ≤ length below)
            × (length stack + func_members func ≡ length below + 1)
        by true (Some value) fits found =
            let many = length-drop (func_members func) below in
            let within = leb-true (func_members func) (length below) fits in
            let stack_is : slot.Function value ∷ drop (func_members func) below ≡ stack =
            cc (rw (fits, found) at is) in
            (within, omega (arith, many, within, ap length stack_is))
        by true None fits found = absurd (cc (rw (fits, found) at is))
        by false value fits found = absurd (cc (rw fits at is))

  answer-some : (found : Option T) (below stack : List (Slot T))
      → push_item logic (answer_item found) below ≡ Some stack
      → (answer : T) × (found ≡ Some answer) × (length stack ≡ length below + 1)
  answer-some None below stack is = absurd (cc (is))
  answer-some (Some answer) below stack is =
      let stack_is : slot.Leaf answer ∷ below ≡ stack = cc (is) in
      (answer, refl, omega (arith, ap length stack_is))

  forest-read : (all : List Step) (stack : List (Slot T))
      → read logic (map (step_item logic answers) all) ≡ Some stack → Forest all (length stack)
  forest-read [] stack is =
      let stack_is : [] ≡ stack = cc (is) in
      record { trees = Trees.none; are = refl; counted = ap length stack_is; inside = tt }
  forest-read (Ask number ∷ all) stack is =
      let first = pushed (answer_item (slice_get answers number))
      (read logic (map (step_item logic answers) all)) stack is in
      let (answer, found, many) = answer-some (slice_get answers number)
      first.below stack first.pushes in
      forest-more (Tree.leaf number) _ _ _ _ refl (slice_get_within answers number answer found, tt)
      (forest-read all first.below first.is) many
  forest-read (Literal truth ∷ all) stack is =
      let literal = Some (literal_value logic truth) in
      let first = pushed (answer_item literal)
      (read logic (map (step_item logic answers) all)) stack
      is in
      let (answer, found, many) = answer-some literal first.below stack first.pushes in
      forest-more (Tree.literal truth) _ _ _ _ refl tt (forest-read all first.below first.is) many
  forest-read (Function func ∷ all) stack is =
      let first = pushed (Item.function func) (read logic (map (step_item logic answers) all)) stack
      is in
      let (enough, many) = apply-some func first.below stack first.pushes in
      forest-function func all _ _ (forest-read all first.below first.is) enough many

  alone-one : (stack : List (Slot T)) (value : T) → value_alone stack ≡ Some value
      → length stack ≡ 1
  alone-one [] value is = absurd (cc (is))
  alone-one (one ∷ []) value is = refl
  alone-one (one ∷ other ∷ stack) value is = absurd (cc (is))

  -- steps that leave a value alone have it
  pub HasValue-read : (all : List Step) (value : T) → steps_value logic all answers ≡ Some value
      → HasValue logic all answers value
  HasValue-read all value is = by (read logic (map (step_item logic answers) all)) refl where
    one-tree : (trees : Trees ℕ) → count trees ≡ 1 → InsideEach trees → steps_each trees ≡ all
        → HasValue logic all answers value
    one-tree Trees.none many inside are = absurd (omega (arith, many))
    one-tree (Trees.more tree (Trees.more other trees)) many inside are =
        absurd (omega (arith, many))
    one-tree (Trees.more tree Trees.none) many inside are =
        let alone : all ≡ steps tree = sym are ∙ append-nil (steps tree) in
        let found = steps_value-tree logic answers tree inside.0 in
        let same : Some (tree_value logic (tree_map (answer_at logic answers) tree)) ≡ Some value =
        sym found ∙ ap (λ l. steps_value logic l answers) (sym alone) ∙ is in
        record { tree = tree; are = alone; inside = inside.0; value_is = cc (same) }

    by : (left : Option (List (Slot T))) → read logic (map (step_item logic answers) all) ≡ left
        → HasValue logic all answers value
    by None left_is = absurd (cc (rw left_is at is))
    by (Some stack) left_is =
        let one = alone-one stack value (rw left_is at is) in
        let forest = forest-read all stack left_is in
        one-tree forest.trees (forest.counted ∙ one) forest.inside forest.are

  -- and no other steps do
  pub read-HasValue : (all : List Step) (value : T) → HasValue logic all answers value
      → steps_value logic all answers ≡ Some value
  read-HasValue all value has = rw (has.are, has.value_is)
      (steps_value-tree logic answers has.tree has.inside)

  pub HasValue-one : (all : List Step) (value other : T) → HasValue logic all answers value
      → HasValue logic all answers other → value ≡ other
  HasValue-one all value other has has' =
      let same : Some value ≡ Some other =
      sym (read-HasValue all value has) ∙ read-HasValue all other has' in cc (same)
