-- The values of many conditions on many targets.
-- Source: Kleene's strong logic.
use Rattle.std.specs.Prelude.{◌≡◌, ◌<◌, ◌+◌, ◌*◌, ℕ, Bool, List, Option, Some, Err, IsSomeAnd}
use Rattle.std.specs.Prelude.{length, take}
use Rattle.std.specs.List.{AllByRecursion, AllZip, slice_get}
use Rattle.cfgx_syntax.specs.Stripping.{strip}
use Rattle.cfgx_syntax.specs.Error.{TextFault}
use Rattle.cfgx_grammar.specs.Question.{Question}
use Rattle.cfgx_grammar.specs.Tree.{asked}
use Rattle.cfgx_grammar.specs.Answer.{HasOneTree}
use Rattle.cfg_expr.specs.Filling.{three_valued}
use Rattle.cfg_expr.specs.Fold.{tree_fold}
use Rattle.cfgx_engine.specs.Readings.{ParsesAs}

-- the value of the text's one tree over answers to its questions
pub record HasValueOver (Answers : Question → Option Bool → Type 0) (text : List ℕ)
    (value : Option Bool) : Type 0 where
  pub one : HasOneTree text
  pub answers : List (Option Bool)
  pub answered : AllZip Answers (asked one.tree) answers
  pub value_is : value ≡ tree_fold three_valued one.tree answers

-- The values of the conditions on the targets. With `n` targets, item `i * n + j` is the value of
-- condition `i` over what target `j` answers.
pub record AreValues {T : Type 0} (Answers : T → Question → Option Bool → Type 0)
    (conditions : List (List ℕ)) (targets : List T) (values : List (Option Bool)) : Type 0 where
  pub count : length values ≡ length conditions * length targets
  pub each : (i j : ℕ) (condition : List ℕ) (target : T)
      → slice_get conditions i ≡ Some condition → slice_get targets j ≡ Some target
      → IsSomeAnd (slice_get values (i * length targets + j))
      (HasValueOver (Answers target) condition)

-- there is a text at `index`, and each text before it is a condition
pub record FollowsConditions (texts : List (List ℕ)) (index : ℕ) : Type 0 where
  pub below : index < length texts
  pub before : AllByRecursion (λ text. HasOneTree (strip text)) (take index texts)

-- the text at `index` has this fault, and each text before it is a condition
pub record IsFirstFault (texts : List (List ℕ)) (index : ℕ) (fault : TextFault) : Type 0 where
  pub text : List ℕ
  pub stands : slice_get texts index ≡ Some text
  pub before : AllByRecursion (λ text. HasOneTree (strip text)) (take index texts)
  pub parses : ParsesAs text (Err fault)
