-- Three values are exact: a value is known exactly if every filling leads to it.
use Rattle.std.proofs.Common.{◌≡◌, ℕ, ◌+◌, Bool, true, false, not, List, [], ◌∷◌, ◌++◌, arith}
use Rattle.std.proofs.Common.{length, Option, refl, sym, ◌∙◌, drop, unwrap_or}
use Rattle.std.{proofs.lemmas.List.drop-drop, specs.List.AllZip}
use Rattle.cfgx_grammar.specs.Tree.{ListFunction, Tree, Trees, is_function, is_leaf, asked}
use Rattle.cfgx_grammar.specs.Tree.{asked_by}
use Rattle.cfg_expr.specs.Fold.{answered_each, tree_fold}
use Rattle.cfg_expr.proofs.SameShapes.{polarities-shape, polarities_each-shape}
use Rattle.cfg_expr.specs.Fold.{Operations, from_last, list_value, values_by, first_or}
use Rattle.cfg_expr.specs.Filling.{two_valued, three_valued, filled_by, Agrees, IsFilling}
use Rattle.cfg_expr.specs.Filling.{IsExact, polar, polarities, polarities_each}
use Rattle.cfg_expr.specs.Filling.{KeepsKnown, StaysKnown}
use Rattle.cfg_expr.specs.Deciding.{HoldsFillingsOf, IsDecision}
use Rattle.cfg_expr.specs.declared.expr.Decision.{Decision}
use Rattle.cfg_expr.specs.declared.expr.Decision.TheVariants as decision
use Rattle.cfgx_grammar.proofs.Alike.{AllZip-append, length-asked, length-asked_by}

-- Values of two logics that are related stay so.

-- the operations of two logics preserve a relation of their values for each polarity, which `not`
-- negates
pub record Preserve {T U : Type 0} (one : Operations T) (other : Operations U)
    (R : Bool → T → U → Type 0) : Type 0 where
  pub top : (p : Bool) → R p one.top other.top
  pub bottom : (p : Bool) → R p one.bottom other.bottom
  pub and : (p : Bool) (x y : T) (u v : U) → R p x u → R p y v → R p (one.and x y) (other.and u v)
  pub or : (p : Bool) (x y : T) (u v : U) → R p x u → R p y v → R p (one.or x y) (other.or u v)
  pub turn : (p : Bool) (x : T) (u : U) → R (not p) x u → R p (one.not x) (other.not u)

-- the answers to predicates of these polarities are related; `top` stands for an answer that is
-- missing
abbrev pub Along : {T U : Type 0} → Operations T → Operations U → (Bool → T → U → Type 0)
    → List Bool → List T → List U → Type 0
Along one other R [] xs ys = Unit {0}
Along one other R (p ∷ ps) xs ys = R p (first_or one.top xs) (first_or other.top ys)
    × Along one other R ps (drop 1 xs) (drop 1 ys)

module _ {T U : Type 0} (one : Operations T) (other : Operations U) (R : Bool → T → U → Type 0)
  where
    Along-append : (these those : List Bool) (xs : List T) (ys : List U)
        → Along one other R (these ++ those) xs ys → (n : ℕ) → length these ≡ n
        → Along one other R these xs ys × Along one other R those (drop n xs) (drop n ys)
    Along-append [] those xs ys all n long = rw (sym long) (tt, all)
    Along-append (p ∷ these) those xs ys all n long =
        let rest = Along-append these those (drop 1 xs) (drop 1 ys) all.1 (length these) refl in
        let many : 1 + length these ≡ n = omega (arith, long) in
        ((all.0, rest.0), rw (← many, ← drop-drop _ 1 xs, ← drop-drop _ 1 ys) rest.1)

module _ {T U : Type 0} (one : Operations T) (other : Operations U) (R : Bool → T → U → Type 0)
    (preserve : Preserve one other R) where
  from_last_kept : (p : Bool) (join : T → T → T) (other_join : U → U → U) (begin : T) (begun : U)
      → R p begin begun
      → ((x y : T) (u v : U) → R p x u → R p y v → R p (join x y) (other_join u v))
      → (xs : List T) (ys : List U) → AllZip (R p) xs ys
      → R p (from_last join begin xs) (from_last other_join begun ys)
  from_last_kept p join other_join begin begun base each [] [] all = base
  from_last_kept p join other_join begin begun base each (x ∷ xs) (y ∷ ys) all =
      grind (arith, from_last_kept p join other_join begin begun base each xs ys all.1)
  from_last_kept p join other_join begin begun base each _ _ all = absurd all

  list_kept : (p : Bool) (function : ListFunction) (xs : List T) (ys : List U)
      → AllZip (R p) xs ys → R p (list_value one function xs) (list_value other function ys)
  list_kept p function xs ys all = grind (arith, from_last_kept)

  -- the values of the members that pass the test are related
  abbrev Kept : Bool → Trees T → Trees U → Type 0
  Kept p these those =
      AllZip (R p) (values_by one is_function these) (values_by other is_function those)
      × AllZip (R p) (values_by one is_leaf these) (values_by other is_leaf those)

  mutual
    -- answers that are related make related values
    pub value_kept : {X : Type 0} (tree : Tree X) (p : Bool) (xs : List T) (ys : List U)
        → Along one other R (asked (polarities p tree)) xs ys
        → R p (tree_fold one tree xs) (tree_fold other tree ys)
    value_kept (Tree.leaf x) p xs ys all = all.0
    value_kept (Tree.literal true) p xs ys all = preserve.top p
    value_kept (Tree.literal false) p xs ys all = preserve.bottom p
    value_kept (Tree.list function trees) p xs ys all =
        let parts = Along-append one other R _ _ xs ys all _
        (length-asked_by _ trees _ (polarities_each-shape p trees)) in
        let each = values_kept trees p xs ys _ _ parts.0 parts.1 in
        list_kept p function _ _ (AllZip-append (R p) _ _ _ _ each.0 each.1)
    value_kept (Tree.not tree) p xs ys all = preserve.turn p _ _ (value_kept tree (not p) xs ys all)

    values_kept : {X : Type 0} (trees : Trees X) (p : Bool) (xs : List T) (ys : List U)
        (own : List T) (others : List U)
        → Along one other R (asked_by is_function (polarities_each p trees)) xs ys
        → Along one other R (asked_by is_leaf (polarities_each p trees)) own others
        → Kept p (answered_each one.top trees (record { functions = xs; leaves = own }))
        (answered_each other.top trees (record { functions = ys; leaves = others }))
    values_kept Trees.none p xs ys own others inner outer = (tt, tt)
    values_kept (Trees.more (Tree.leaf x) trees) p xs ys own others inner outer =
        let rest = values_kept trees p xs ys _ _ inner outer.1 in (rest.0, (outer.0, rest.1))
    values_kept {X = X} (Trees.more (Tree.literal truth) trees) p xs ys own others inner outer =
        let rest = values_kept trees p xs ys own others inner outer in
        (rest.0, (value_kept {X = X} (Tree.literal truth) p xs ys tt, rest.1))
    values_kept (Trees.more tree trees) p xs ys own others inner outer =
        let parts = Along-append one other R _ _ xs ys inner _
        (length-asked _ tree _ (polarities-shape p tree)) in
        let rest = values_kept trees p _ _ own others parts.1 outer in
        ((value_kept tree p xs ys parts.0, rest.0), rest.1)

Along-all : {T U : Type 0} (one : Operations T) (other : Operations U) (R : T → U → Type 0)
    → R one.top other.top → (ps : List Bool) (xs : List T) (ys : List U) → AllZip R xs ys
    → Along one other (λ p. R) ps xs ys
Along-all one other R top [] xs ys all = tt
Along-all one other R top (p ∷ ps) [] [] all = (top, Along-all one other R top ps [] [] tt)
Along-all one other R top (p ∷ ps) (x ∷ xs) (y ∷ ys) all =
    (all.0, Along-all one other R top ps xs ys all.1)
Along-all one other R top _ _ _ all = absurd all

-- if all answers are related, so are the values
pub fold_kept : {T U X : Type 0} (one : Operations T) (other : Operations U) (R : T → U → Type 0)
    → Preserve one other (λ p. R) → (tree : Tree X) (xs : List T) (ys : List U) → AllZip R xs ys
    → R (tree_fold one tree xs) (tree_fold other tree ys)
fold_kept one other R preserve tree xs ys all = value_kept one other (λ p. R) preserve tree true
    xs ys (Along-all one other R (preserve.top true) _ xs ys all)

-- every filling leads to a known value

agreement : Preserve three_valued two_valued (λ p. Agrees)
agreement = grind arith

-- a known value stays when more answers become known

stays : Preserve three_valued three_valued (λ p. StaysKnown)
stays = grind arith

pub known_stays : {X : Type 0} (tree : Tree X) (answers later : List (Option Bool))
    → KeepsKnown answers later
    → StaysKnown (tree_fold three_valued tree answers) (tree_fold three_valued tree later)
known_stays tree answers later keeps =
    fold_kept three_valued three_valued StaysKnown stays tree answers later keeps

-- the polar filling with `fill` leads to the value, or to `fill` if that is unknown

abbrev Side : Bool → Option Bool → Bool → Type 0
Side fill value side = side ≡ unwrap_or value fill

sides : Preserve three_valued two_valued Side
sides = grind arith

Along-sides : (ps : List Bool) (answers : List (Option Bool))
    → Along three_valued two_valued Side ps answers (filled_by answers ps)
Along-sides [] answers = tt
Along-sides (p ∷ ps) [] = (refl, Along-sides ps [])
Along-sides (p ∷ ps) (answer ∷ answers) = (refl, Along-sides ps answers)

is_filling : (answers : List (Option Bool)) (ps : List Bool) → length answers ≡ length ps
    → IsFilling answers (filled_by answers ps)
is_filling [] ps long = tt
is_filling (answer ∷ answers) [] long = absurd (omega (arith, long))
is_filling (answer ∷ answers) (p ∷ ps) long =
    (grind arith, is_filling answers ps (omega (arith, long)))

-- Both directions.

module _ {X : Type 0} (tree : Tree X) (answers : List (Option Bool))
    (all : length answers ≡ length (asked tree)) where
  polar_value : (fill : Bool) → tree_fold two_valued tree (polar tree answers fill)
      ≡ unwrap_or (tree_fold three_valued tree answers) fill
  polar_value fill = value_kept three_valued two_valued Side sides tree fill answers _
      (Along-sides _ answers)

  polar_filling : (fill : Bool) → IsFilling answers (polar tree answers fill)
  polar_filling fill = is_filling answers _
      (all ∙ sym (length-asked _ tree _ (polarities-shape fill tree)))

  pub IsExact-fold : IsExact tree answers
  IsExact-fold =
      let upper = polar_value true in
      let lower = polar_value false in
      let kept = fold_kept three_valued two_valued Agrees agreement tree answers in
      grind (arith, kept, polar_filling)

  -- what a decision holds are fillings
  pub HoldsFillingsOf-decision : {A : Type 0} (given : Decision A) → IsDecision tree answers given
      → HoldsFillingsOf answers given
  HoldsFillingsOf-decision (decision.Known value) is = tt
  HoldsFillingsOf-decision (decision.Unknown if_true if_false) is =
      (rw is.1 (polar_filling true), rw is.2 (polar_filling false))
