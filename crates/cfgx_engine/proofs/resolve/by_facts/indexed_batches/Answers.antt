-- One batch more. In the end no target is left.
use Rattle.cfgx_engine.proofs.AuditLemmas.{batches-end, batches-more}
use Rattle.cfgx_engine.proofs.resolve.by_facts.indexed_batches.Goals as goal

pub loop-left-preserved : goal.loop-left-preserved
loop-left-preserved g c =
    rw (c.in_ok-push.ensures.items, c.in_ok-of.ensures)
    (batches-more c.loop-left.batches.items c.split_at.result.0.now c.loop-left.left.now
    c.split_at.result.1.now c.args.targets.now c.loop-left.invariant c.split_at.ensures.by_index.0)

pub returns : goal.returns
returns g c =
    batches-end c.loop-left.batches.items c.loop-left.left.now c.args.targets.now c.is_empty.result
    c.loop-left.invariant c.is_empty.ensures c.loop-left-test.false
