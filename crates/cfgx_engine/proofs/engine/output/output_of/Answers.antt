use Rattle.cfgx_engine.proofs.{PickLemmas.PrintsInput-any}
use Rattle.cfgx_engine.proofs.engine.output.output_of.Goals as goal

pub returns-in_ok-parse_output-in-Parse-clause-right
    : goal.returns-in_ok-parse_output-in-Parse-clause-right
returns-in_ok-parse_output-in-Parse-clause-right g c =
    PrintsInput-any _ _ _ c.in-Parse.ensures (λ input. c.in_ok-parse_output-in-Parse.ensures)

pub returns-in_ok-eval_output-in-Eval-clause-right
    : goal.returns-in_ok-eval_output-in-Eval-clause-right
returns-in_ok-eval_output-in-Eval-clause-right g c =
    PrintsInput-any _ _ _ c.in-Eval.ensures (λ input. c.in_ok-eval_output-in-Eval.ensures)

pub returns-in_ok-target_output-in-Target-clause-right
    : goal.returns-in_ok-target_output-in-Target-clause-right
returns-in_ok-target_output-in-Target-clause-right g c =
    PrintsInput-any _ _ _ c.in-Target.ensures (λ input. c.in_ok-target_output-in-Target.ensures)

pub returns-in-WrongUse-clause-right : goal.returns-in-WrongUse-clause-right
returns-in-WrongUse-clause-right g c =
    PrintsInput-any _ _ _ c.in-WrongUse.ensures (λ input. c.constant.ensures)

-- a triple that is not found
pub returns-in-Pick-clause-others : goal.returns-in-Pick-clause-others
returns-in-Pick-clause-others g c = rw (← c.in-Pick.ensures) c.pick_output.ensures.others
