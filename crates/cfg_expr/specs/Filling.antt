-- Answers that may be unknown, and the fillings of the unknown ones.
-- Source: Kleene's strong logic, in which a value is known if every filling leads to it, where each
-- occurrence is filled by itself.
use Rattle.std.specs.Prelude.{◌≡◌, ◌↔◌, ℕ, Bool, true, false, not, List}
use Rattle.std.specs.Prelude.{Option, Some, None, Vec, map, unwrap_or, zip}
use Rattle.std.specs.List.{AllZip}
use Rattle.cfgx_syntax.specs.contracts.logic.BoolLogic.TheImpl as bool_logic
use Rattle.cfgx_syntax.specs.contracts.logic.OptionBoolLogic.TheImpl as kleene_logic
use Rattle.cfgx_grammar.specs.Tree.{Tree, Trees, asked}
use Rattle.cfg_expr.specs.Fold.{Operations, tree_fold}

-- the logics of truth values, and of answers that may be unknown
abbrev pub two_valued : Operations Bool
two_valued = bool_logic.ghosts

abbrev pub three_valued : Operations (Option Bool)
three_valued = kleene_logic.ghosts

-- if the answer is known, the truth value is the answer
abbrev pub Agrees : Option Bool → Bool → Type 0
Agrees None filled = Unit {0}
Agrees (Some answer) filled = filled ≡ answer

-- there is one truth value for each answer, and it is the answer if that is known
abbrev pub IsFilling : List (Option Bool) → List Bool → Type 0
IsFilling answers filling = AllZip Agrees answers filling

-- if the answer is known, the later one is the same
abbrev pub StaysKnown : Option Bool → Option Bool → Type 0
StaysKnown None later = Unit {0}
StaysKnown (Some answer) later = later ≡ Some answer

-- there is one later answer for each answer, and it is the same if that is known
abbrev pub KeepsKnown : List (Option Bool) → List (Option Bool) → Type 0
KeepsKnown answers later = AllZip StaysKnown answers later

-- the tree with each predicate replaced by its polarity: `polarity`, negated once for each `not`
-- around the predicate
abbrev mutual
  pub polarities : {X : Type 0} → Bool → Tree X → Tree Bool
  polarities polarity (Tree.leaf x) = Tree.leaf polarity
  polarities polarity (Tree.literal truth) = Tree.literal truth
  polarities polarity (Tree.list function trees) =
      Tree.list function (polarities_each polarity trees)
  polarities polarity (Tree.not tree) = Tree.not (polarities (not polarity) tree)

  pub polarities_each : {X : Type 0} → Bool → Trees X → Trees Bool
  polarities_each polarity Trees.none = Trees.none
  polarities_each polarity (Trees.more tree trees) =
      Trees.more (polarities polarity tree) (polarities_each polarity trees)

-- the answers, with each unknown one replaced by the truth value beside it
abbrev pub filled_by : List (Option Bool) → List Bool → List Bool
filled_by answers others = map (λ x. unwrap_or x.0 x.1) (zip answers others)

-- The answers, with each unknown one filled by the polarity of its predicate: with `fill` below an
-- even number of `not`, and with its opposite below an odd number.
abbrev pub polar : {X : Type 0} → Tree X → List (Option Bool) → Bool → List Bool
polar tree answers fill = filled_by answers (asked (polarities fill tree))

-- a truth value as a byte
abbrev pub truth_byte : Bool → ℕ
truth_byte false = 0
truth_byte true = 1

-- the truth values of a filling as bytes
abbrev pub filling_bytes : List Bool → List ℕ
filling_bytes filling = map truth_byte filling

-- the value in three values is exact, by the fillings of the answers
pub record IsExact {X : Type 0} (tree : Tree X) (answers : List (Option Bool)) : Type 0 where
  -- both polar fillings are fillings of the answers
  pub filled : (fill : Bool) → IsFilling answers (polar tree answers fill)
  -- it is known exactly if every filling leads to it
  pub known : (value : Bool) → (tree_fold three_valued tree answers ≡ Some value)
      ↔ ((filling : List Bool) → IsFilling answers filling
      → tree_fold two_valued tree filling ≡ value)
  -- it is unknown exactly if one polar filling makes the tree true and the other one false
  pub unknown : (tree_fold three_valued tree answers ≡ None)
      ↔ ((tree_fold two_valued tree (polar tree answers true) ≡ true)
      × (tree_fold two_valued tree (polar tree answers false) ≡ false))

-- the result of `polar_fillings`: `None` if the value is known, and else the polar fillings with
-- true and with false, which are fillings of the answers
abbrev pub PolarFillings : {X A : Type 0} → Tree X → List (Option Bool)
    → Option (Vec Bool A × Vec Bool A) → Type 0
PolarFillings tree answers None =
    (value : Bool) × (tree_fold three_valued tree answers ≡ Some value)
PolarFillings tree answers (Some fillings) = (tree_fold three_valued tree answers ≡ None)
    × (fillings.0.items ≡ polar tree answers true)
    × (fillings.1.items ≡ polar tree answers false)
    × IsFilling answers fillings.0.items × IsFilling answers fillings.1.items
