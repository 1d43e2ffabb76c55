-- The steps that were read are those that C sees so.
use Rattle.std.proofs.lemmas.Result.{IfErr-weaker}
use Rattle.cfgx_c.proofs.CSteps.{Applies-read, DoNotApply-read}
use Rattle.cfgx_c.proofs.apply.eval_in.Goals as goal

pub returns-clause-value : goal.returns-clause-value
returns-clause-value c =
    let read = rw c.if-not-read_steps.false at c.read_steps.ensures in
    let found = rw c.read_answers.ensures at c.eval_steps.ensures in
    Applies-read _ c.args.steps.now read c.args.answers.now c.eval_steps.result found.counted
    found.value

pub returns-clause-error : goal.returns-clause-error
returns-clause-error c =
    let read = rw c.if-not-read_steps.false at c.read_steps.ensures in
    let error = rw c.read_answers.ensures at c.eval_steps.ensures.error in
    IfErr-weaker c.eval_steps.result _ _
    (DoNotApply-read _ c.args.steps.now read c.args.answers.now) error
