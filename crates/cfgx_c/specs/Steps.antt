-- Steps as C sees them, and what `cfgx_compile` and `cfgx_apply` promise.
-- Source: include/cfgx.h.
use Rattle.std.specs.Prelude.{◌≡◌, ◌≢◌, ◌==◌, ◌≤◌, ℕ, Bool, true, false, List, Option, count_by}
use Rattle.std.specs.Prelude.{length, map}
use Rattle.cfgx_syntax.specs.Stripping.{strip}
use Rattle.cfgx_grammar.specs.Answer.{HasOneTree}
use Rattle.cfg_expr.specs.Filling.{three_valued}
use Rattle.cfg_expr.specs.Steps.{HasValue, steps_of}
use Rattle.cfg_expr.specs.declared.expr.steps.Step.{Step}
use Rattle.cfg_expr.specs.declared.expr.steps.Step.TheVariants.{Ask, Literal, Function}
use Rattle.cfgx_parser.specs.declared.function.Func.TheVariants.{Not, All, Any}
use Rattle.cfgx_c.specs.Buffer.{FillsBoth}
use Rattle.cfgx_c.specs.Predicates.{ListsPredicates}
use Rattle.cfgx_c.specs.Value.{answer_of, byte_of_value}
use Rattle.cfgx_c.specs.declared.predicates.CfgxPredicate.{CfgxPredicate}
use Rattle.cfgx_c.specs.declared.steps.CfgxStep.{CfgxStep}

-- a step as C sees it: its kind, and the number of its predicate or of its members
abbrev pub c_step : Step → CfgxStep
c_step (Literal false) = record { kind = 0; number = 0 }
c_step (Literal true) = record { kind = 1; number = 0 }
c_step (Ask number) = record { kind = 2; number = number }
c_step (Function Not) = record { kind = 3; number = 1 }
c_step (Function (All n)) = record { kind = 4; number = n }
c_step (Function (Any n)) = record { kind = 5; number = n }

-- whether C sees a step that asks
abbrev pub is_c_ask : CfgxStep → Bool
is_c_ask step = step.kind == 2

-- both buffers were filled: with the steps of the text's one tree, of which there are no more than
-- bytes, and with its predicates, of which there are no more than steps
pub record Compiles (text : List ℕ) (old_steps new_steps : List CfgxStep) (steps_needed : ℕ)
    (old_predicates new_predicates : List CfgxPredicate) (predicates_needed : ℕ) : Type 0 where
  pub one : HasOneTree (strip text)
  pub predicates : List CfgxPredicate
  pub lists : ListsPredicates text predicates
  pub fills : FillsBoth (map c_step (steps_of one.tree)) old_steps new_steps predicates
      old_predicates new_predicates
  pub steps_needed_is : steps_needed ≡ length (steps_of one.tree)
  pub few : steps_needed ≤ length text
  pub predicates_needed_is : predicates_needed ≡ length predicates
  pub few_predicates : predicates_needed ≤ steps_needed

-- there are as many answers as steps that ask
abbrev pub AreCCounted : List CfgxStep → List ℕ → Type 0
AreCCounted seen answers = length answers ≡ count_by is_c_ask seen

-- the steps that C sees so have this value over the answers
pub record HasCValue (seen : List CfgxStep) (answers : List ℕ) (value : Option Bool) : Type 0 where
  pub steps : List Step
  pub are : map c_step steps ≡ seen
  pub has : HasValue three_valued steps (map answer_of answers) value

-- what `cfgx_apply` promises if the steps have a value over the answers
pub record Applies (seen : List CfgxStep) (answers : List ℕ) (value : ℕ) : Type 0 where
  pub counted : AreCCounted seen answers
  pub of : Option Bool
  pub has : HasCValue seen answers of
  pub value_is : value ≡ byte_of_value of

-- there are as many answers as steps that ask, but no steps that C sees so have a value over them
pub record HaveNoCValue (seen : List CfgxStep) (answers : List ℕ) : Type 0 where
  pub counted : AreCCounted seen answers
  pub none : (value : Option Bool) → HasCValue seen answers value → ⊥

-- there are more or fewer answers than steps that ask
abbrev pub AreCMiscounted : List CfgxStep → List ℕ → Type 0
AreCMiscounted seen answers = length answers ≢ count_by is_c_ask seen
