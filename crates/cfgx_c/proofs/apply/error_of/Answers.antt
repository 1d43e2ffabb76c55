-- No steps look so.
use Rattle.std.proofs.Common.{◌∙◌, sym}
use Rattle.cfgx_c.proofs.CSteps.{HaveNoCValue-none}
use Rattle.cfgx_c.proofs.apply.error_of.Goals as goal

pub returns-then-count_asks-answers : goal.returns-then-count_asks-answers
returns-then-count_asks-answers c = HaveNoCValue-none c.args.steps.now c.args.answers.now
    (sym c.if-count_asks-answers.true ∙ c.count_asks.ensures) c.requires
