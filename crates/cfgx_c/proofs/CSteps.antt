-- Steps as C sees them stand for one list of steps.
use Rattle.std.proofs.Common.{◌≡◌, ◌==◌, ◌<◌, ◌∙◌, ℕ, List, [], ◌∷◌, ap, false, get_or}
use Rattle.std.proofs.Common.{arith, if◌then◌else◌, inl, length, map, refl, subst, sym, true}
use Rattle.std.proofs.Common.{Bool, Option, Result, Ok, Err, cond, count_by}
use Rattle.std.specs.Prelude.{IfOk}
use Rattle.std.proofs.lemmas.List.{get_or-map, length-map}
use Rattle.std.proofs.lemmas.List.Sums.{sum_by-cons}
use Rattle.cfg_expr.specs.Filling.{three_valued}
use Rattle.cfg_expr.specs.Steps.{AreCounted, Fail, HasValue, is_ask}
use Rattle.cfg_expr.specs.declared.expr.steps.Step.{Step}
use Rattle.cfg_expr.specs.declared.expr.steps.Step.TheVariants.{Ask, Literal, Function}
use Rattle.cfgx_parser.specs.declared.function.Func.TheVariants.{Not, All, Any}
use Rattle.cfg_expr.specs.declared.expr.steps.StepsError.{StepsError}
use Rattle.cfg_expr.specs.declared.expr.steps.StepsError.TheVariants as error
use Rattle.cfgx_c.specs.{Value.answer_of, Value.byte_of_value, internal.Applying.DoNotApply}
use Rattle.cfgx_c.specs.Steps.{AreCCounted, Applies, HaveNoCValue, c_step, is_c_ask}
use Rattle.cfgx_c.specs.declared.steps.CfgxStep.{CfgxStep}

-- the step, if there is one, that C sees so
abbrev step_back : CfgxStep → Step
step_back step = if step.kind == 0 then Literal false else (if step.kind == 1 then Literal true
    else (if step.kind == 2 then Ask step.number else (if step.kind == 3 then Function Not
    else (if step.kind == 4 then Function (All step.number) else Function (Any step.number)))))

step_back-c_step : (step : Step) → step_back (c_step step) ≡ step
step_back-c_step step = grind arith

all_back : (steps : List Step) → map step_back (map c_step steps) ≡ steps
all_back [] = refl
all_back (step ∷ steps) = rw (step_back-c_step step, all_back steps) refl

-- different steps look different
pub same_steps : (steps others : List Step) → map c_step others ≡ map c_step steps → steps ≡ others
same_steps steps others are =
    sym (all_back steps) ∙ ap (map step_back) (sym are) ∙ all_back others

-- where one step is none, the list is that of no steps
pub no_steps : (seen : List CfgxStep) (i : ℕ) (otherwise : CfgxStep) → i < length seen
    → ((step : Step) → c_step step ≡ get_or seen i otherwise → ⊥)
    → (steps : List Step) → map c_step steps ≡ seen → ⊥
no_steps seen i otherwise inside none steps are = none (get_or steps i (Ask 0))
    (sym (get_or-map c_step steps i (Ask 0) otherwise
    (omega (arith, inside, ap length are, length-map steps c_step)))
    ∙ ap (λ l. get_or l i otherwise) are)

-- C sees as many steps that ask
is_c_ask-c_step : (step : Step) → is_c_ask (c_step step) ≡ is_ask step
is_c_ask-c_step (Ask number) = refl
is_c_ask-c_step (Literal false) = refl
is_c_ask-c_step (Literal true) = refl
is_c_ask-c_step (Function Not) = refl
is_c_ask-c_step (Function (All n)) = refl
is_c_ask-c_step (Function (Any n)) = refl

pub count-c_steps : (steps : List Step)
    → count_by is_c_ask (map c_step steps) ≡ count_by is_ask steps
count-c_steps [] = refl
count-c_steps (step ∷ steps) =
    let first : cond (is_c_ask (c_step step)) 1 0 ≡ cond (is_ask step) 1 0 =
    ap {B = ℕ} (λ asks. cond asks 1 0) (is_c_ask-c_step step) in
    omega (
      arith,
      sum_by-cons (λ one. cond (is_c_ask one) 1 0) (c_step step) (map c_step steps),
      sum_by-cons (λ one. cond (is_ask one) 1 0) step steps,
      first,
      count-c_steps steps,
    )

module _ (steps : List Step) (seen : List CfgxStep) (are : map c_step steps ≡ seen)
    (bytes : List ℕ) where
  counted-read : AreCounted steps (map answer_of bytes) → AreCCounted seen bytes
  counted-read counted = sym (length-map bytes answer_of) ∙ counted ∙ sym (count-c_steps steps)
      ∙ ap (count_by is_c_ask) are

  -- the value of steps, and why they have none, as C sees them
  pub Applies-read : {E : Type 0} (found : Result (Option Bool) E)
      → IfOk found (λ value. AreCounted steps (map answer_of bytes))
      → IfOk found (HasValue three_valued steps (map answer_of bytes))
      → IfOk found (λ value. Applies seen bytes (byte_of_value value))
  Applies-read (Ok value) counted has = record {
    counted = counted-read counted;
    of = value;
    has = record { steps = steps; are = are; has = has };
    value_is = refl;
  }
  Applies-read (Err error) counted has = tt

  pub DoNotApply-read : (failed : StepsError)
      → Fail three_valued steps (map answer_of bytes) failed → DoNotApply seen bytes failed
  DoNotApply-read error.Miscounted fails = λ counted. fails (length-map bytes answer_of ∙ counted
      ∙ ap (count_by is_c_ask) (sym are) ∙ count-c_steps steps)
  DoNotApply-read error.NoValue fails = record {
    counted = counted-read fails.0;
    none = λ value has. fails.1 value
        (subst (λ list. HasValue three_valued list (map answer_of bytes) value)
        (sym (same_steps steps has.steps (has.are ∙ sym are))) has.has);
  }
  DoNotApply-read (error.Memory refused) fails =
      inl (omega (arith, fails, ap length are, length-map steps c_step))

-- where no steps look so, they have no value
pub HaveNoCValue-none : (seen : List CfgxStep) (bytes : List ℕ) → AreCCounted seen bytes
    → ((steps : List Step) → map c_step steps ≡ seen → ⊥) → HaveNoCValue seen bytes
HaveNoCValue-none seen bytes counted none =
    record { counted = counted; none = λ value has. none has.steps has.are }
