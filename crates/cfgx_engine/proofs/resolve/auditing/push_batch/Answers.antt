-- The values in the lanes are those on the targets.
use Rattle.std.proofs.Common.{◌∙◌, ap, length}
use Rattle.std.proofs.{lemmas.Result.on_ok_weaker, lemmas.Slice.Zip.AllZip-long}
use Rattle.cfgx_grammar.specs.{Tree.asked}
use Rattle.cfgx_engine.{specs.internal.InLanes.InLanes, proofs.AuditLemmas.lanes-told}
use Rattle.cfgx_engine.proofs.resolve.auditing.push_batch.Goals as goal

pub eval_lanes-requires : goal.eval_lanes-requires
eval_lanes-requires g c =
    let batch = c.args.batch.now in
    let found = c.in_ok-answers.ensures in (
      found.0.tree,
      found.0.reads.has,
      ap length c.as_slice.ensures.value
          ∙ AllZip-long (InLanes (g.S.Batch.answers batch) (g.S.Batch.targets batch))
          (asked found.0.tree) c.in_ok-answers.answers.items found.1,
    )

pub returns : goal.returns
returns g c =
    let batch = c.args.batch.now in
    let value = c.in_ok-value.ensures.value in
    on_ok_weaker c.push_lanes.result (lanes-told (g.S.Batch.targets batch)
    (g.S.Batch.answers batch) g.V.From.from_gives c.in_ok-answers.answers.items
    c.as_slice.result.now c.in_ok-value.value _ _ (rw c.count.ensures.count at c.count.ensures.few)
    c.as_slice.ensures.value c.in_ok-answers.ensures (value.0, value.2))
    (rw c.count.ensures.count at c.push_lanes.ensures)
