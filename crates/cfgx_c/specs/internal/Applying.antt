-- Why steps have no value over answers.
use Rattle.std.specs.Prelude.{◌<◌, ◌⊎◌, ℕ, List, length}
use Rattle.cfg_expr.specs.declared.expr.steps.StepsError.{StepsError}
use Rattle.cfg_expr.specs.declared.expr.steps.StepsError.TheVariants as error
use Rattle.cfgx_c.specs.Steps.{AreCMiscounted, HaveNoCValue}
use Rattle.cfgx_c.specs.declared.steps.CfgxStep.{CfgxStep}

-- the error says why the steps have no value over the answers
abbrev pub DoNotApply : List CfgxStep → List ℕ → StepsError → Type 0
DoNotApply seen answers error.Miscounted = AreCMiscounted seen answers
DoNotApply seen answers error.NoValue = HaveNoCValue seen answers
DoNotApply seen answers (error.Memory refused) = (33 < length seen) ⊎ (33 < length answers)
