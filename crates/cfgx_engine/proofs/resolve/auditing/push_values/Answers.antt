-- The values on the next batch are added. In the end no matcher is left.
use Rattle.std.proofs.Common.{◌≡◌, ◌++◌, [], Bool, Option, append_assoc, refl}
use Rattle.cfgx_grammar.specs.Question.{Question}
use Rattle.cfgx_engine.specs.{Verdicts.answer_by, internal.InLanes.TellsValue}
use Rattle.cfgx_engine.proofs.AuditLemmas.{AddsEach-append, AddsEach-none}
use Rattle.cfgx_engine.proofs.resolve.auditing.push_values.Goals as goal

pub loop-left-init : goal.loop-left-init
loop-left-init g c = (
  [],
  refl,
  AddsEach-none (λ (matcher : g.row.M.Denot). TellsValue g.V.From.from_gives c.args.condition.now
      (λ (question : Question) (answer : Option Bool).
      answer ≡ answer_by (g.M.TargetMatcher.answer matcher) question)) c.args.values.now.items,
)

pub loop-left-preserved : goal.loop-left-preserved
loop-left-preserved g c =
    let so_far = c.loop-left.invariant in (
      so_far.0 ++ c.split_at.result.0.now,
      rw (append_assoc, ← c.split_at.ensures.by_index.0) so_far.1,
      AddsEach-append _ so_far.0 c.split_at.result.0.now _ _ _ so_far.2 c.in_ok-push_batch.ensures,
    )
