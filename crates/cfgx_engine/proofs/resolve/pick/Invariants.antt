use Rattle.std.{proofs.Common.take, specs.List.AllZip}
use Rattle.cfgx_engine.specs.Verdicts.{IsVerdict}
use Rattle.cfgx_engine.proofs.resolve.pick.Given as goal

-- each section so far has a verdict
abbrev pub invariant-loop-section : goal.invariant-loop-section
invariant-loop-section g l = AllZip (λ section given.
    IsVerdict (g.M.TargetMatcher.answer l.matcher) section.condition given)
    (take l.section-index l.sections) l.verdicts.items
