-- What is decided over answers of which some may be unknown.
-- Source: Kleene's strong logic.
use Rattle.std.specs.Prelude.{◌≡◌, ℕ, Bool, true, false, List, Option, Some, None, Vec, length}
use Rattle.cfgx_grammar.specs.Answer.{HasOneTree}
use Rattle.cfgx_grammar.specs.Tree.{Tree, asked}
use Rattle.cfg_expr.specs.Fold.{tree_fold}
use Rattle.cfg_expr.specs.Filling.{IsExact, IsFilling, PolarFillings, filling_bytes, polar}
use Rattle.cfg_expr.specs.Filling.{three_valued}
use Rattle.cfg_expr.specs.declared.expr.Decision.{Decision}
use Rattle.cfg_expr.specs.declared.expr.Decision.TheVariants as decision

-- what a decision holds, whatever the capacity of its vectors: the value, or both fillings
pub data Held : Type 0 where
  known : Bool → Held
  unknown : List Bool → List Bool → Held

abbrev pub held : {A : Type 0} → Decision A → Held
held (decision.Known value) = Held.known value
held (decision.Unknown if_true if_false) = Held.unknown if_true.items if_false.items

-- the value is unknown, and these are the fillings
abbrev pub HoldsFillings : {A : Type 0} → Decision A → List Bool → List Bool → Type 0
HoldsFillings (decision.Known value) with_true with_false = ⊥
HoldsFillings (decision.Unknown if_true if_false) with_true with_false =
    (if_true.items ≡ with_true) × (if_false.items ≡ with_false)

-- the value in three values is known, and is this one; or it is unknown, and these are the polar
-- fillings with true and with false
abbrev pub IsDecision : {X A : Type 0} → Tree X → List (Option Bool) → Decision A → Type 0
IsDecision tree answers (decision.Known value) = tree_fold three_valued tree answers ≡ Some value
IsDecision tree answers (decision.Unknown if_true if_false) =
    (tree_fold three_valued tree answers ≡ None)
    × (if_true.items ≡ polar tree answers true)
    × (if_false.items ≡ polar tree answers false)

-- what the decision holds are fillings of the answers, if the value is unknown
abbrev pub HoldsFillingsOf : {A : Type 0} → List (Option Bool) → Decision A → Type 0
HoldsFillingsOf answers (decision.Known value) = Unit {0}
HoldsFillingsOf answers (decision.Unknown if_true if_false) =
    IsFilling answers if_true.items × IsFilling answers if_false.items

-- The decision is right. The value is known exactly if every filling of the answers leads to it,
-- and unknown exactly if the tree is true with the one polar filling and false with the other.
pub record DecidesExactly {X A : Type 0} (tree : Tree X) (answers : List (Option Bool))
    (given : Decision A) : Type 0 where
  pub is : IsDecision tree answers given
  pub fillings : HoldsFillingsOf answers given
  pub exact : IsExact tree answers

-- what `decide` promises of its decision
abbrev pub Decides : {A : Type 0} → List ℕ → List (Option Bool) → Decision A → Type 0
Decides text answers given = (one : HasOneTree text) × DecidesExactly one.tree answers given

-- what `polar_fillings` promises of its fillings
abbrev pub AreFillings : {A : Type 0} → List ℕ → List (Option Bool)
    → Option (Vec Bool A × Vec Bool A) → Type 0
AreFillings text answers found = (one : HasOneTree text) × PolarFillings one.tree answers found

-- what `write_fillings` promises: these are the bytes of both polar fillings of the text's one tree,
-- which are fillings of the answers
pub record AreFillingBytes (text : List ℕ) (answers : List (Option Bool))
    (if_true if_false : List ℕ) : Type 0 where
  pub one : HasOneTree text
  pub true_is : if_true ≡ filling_bytes (polar one.tree answers true)
  pub false_is : if_false ≡ filling_bytes (polar one.tree answers false)
  pub filled : (fill : Bool) → IsFilling answers (polar one.tree answers fill)

-- the text has one tree, which is exact over any answers to it
abbrev pub IsExactOverAll : List ℕ → Type 0
IsExactOverAll text = (one : HasOneTree text) × ((answers : List (Option Bool))
    → length answers ≡ length (asked one.tree) → IsExact one.tree answers)
