use Rattle.std.proofs.lemmas.{List.{take_all, take_more}, Slice.Zip.all_zipped_more}
use Rattle.cfgx_engine.proofs.VerdictLemmas.{IsVerdict-by}
use Rattle.cfgx_engine.proofs.resolve.pick.Goals as goal

-- the next section has a verdict
pub loop-section-preserved : goal.loop-section-preserved
loop-section-preserved g c =
    let is_verdict = IsVerdict-by (g.M.TargetMatcher.answer c.args.matcher.now) _ _
    c.in_ok-value.ensures in
    rw (
      take_more _ c.loop-section.section-index c.section-item.result c.loop-section-test.true,
      c.in_ok-push.ensures.items,
    ) (all_zipped_more _ _ _ _ _ c.loop-section.invariant
    (rw (← c.section-item.is, c.from.ensures) is_verdict))

-- no section is left
pub returns : goal.returns
returns g c = rw (take_all _ _ c.loop-section-test.false) at c.loop-section.invariant
