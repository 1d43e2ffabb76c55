use Rattle.cfgx_engine.proofs.IndexLemmas.{one_lane-more, one_lane-none}
use Rattle.cfgx_engine.proofs.resolve.index.one_lane.Goals as goal

pub loop-init : goal.loop-init
loop-init c =
    one_lane-none c.args.answer c.bottom.result _ c.bottom.ensures.lanes
    c.push_front-answers.ensures

pub loop-preserved : goal.loop-preserved
loop-preserved c =
    one_lane-more c.loop.counter c.args.answer c.loop.answers _ c.loop.invariant
    c.push_front-answers-in-loop.ensures
