-- The verdict of a target on a condition. A target knows the predicates on the target and no
-- others. Source: Kleene's strong logic, in which a value is known if every way to fill what is
-- unknown leads to it.
use Rattle.std.specs.Prelude.{◌≡◌, ◌↔◌, ℕ, Bool, true, false, List, Option, Some, None, map}
use Rattle.std.specs.{Prelude.nat_eq, Ordering.on}
use Rattle.cfgx_grammar.specs.Question.{Question, TargetQuestion}
use Rattle.cfgx_grammar.specs.Tree.{asked}
use Rattle.cfgx_grammar.specs.Answer.{HasOneTree}
use Rattle.cfg_expr.specs.Filling.{IsFilling, two_valued, three_valued}
use Rattle.cfg_expr.specs.Fold.{tree_fold}
use Rattle.cfgx_engine.specs.declared.resolve.Verdict.{Verdict}
use Rattle.cfgx_engine.specs.declared.resolve.Verdict.TheVariants as verdict

-- the answer to a question on the target is known; every other question is unknown
abbrev pub answer_by : (TargetQuestion → Bool) → Question → Option Bool
answer_by answer (Question.target question) = Some (answer question)
answer_by answer question = None

-- the number of a verdict
abbrev pub verdict_number : Verdict → ℕ
verdict_number verdict.Yes = 0
verdict_number verdict.No = 1
verdict_number verdict.Unknown = 2

-- whether two verdicts are the same
abbrev pub verdict_eq : Verdict → Verdict → Bool
verdict_eq = on verdict_number nat_eq

-- the verdict of a value
abbrev pub verdict_of : Option Bool → Verdict
verdict_of (Some true) = verdict.Yes
verdict_of (Some false) = verdict.No
verdict_of None = verdict.Unknown

-- the verdict on a condition with these answers on the target
pub record IsVerdict (answer : TargetQuestion → Bool) (condition : List ℕ) (given : Verdict)
    : Type 0 where
  pub one : HasOneTree condition
  -- it is the verdict of the tree's value
  pub value_is : given ≡ verdict_of (tree_fold three_valued one.tree
      (map (answer_by answer) (asked one.tree)))
  -- it is `Yes` exactly if every filling of the answers makes the tree true
  pub yes : (given ≡ verdict.Yes) ↔ ((filling : List Bool)
      → IsFilling (map (answer_by answer) (asked one.tree)) filling
      → tree_fold two_valued one.tree filling ≡ true)
  -- and `No` exactly if every filling makes it false
  pub no : (given ≡ verdict.No) ↔ ((filling : List Bool)
      → IsFilling (map (answer_by answer) (asked one.tree)) filling
      → tree_fold two_valued one.tree filling ≡ false)
