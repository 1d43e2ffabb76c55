-- The batches so far and the targets that are left are all targets.
use Rattle.std.proofs.Common.{◌≡◌, ◌++◌, length}
use Rattle.std.specs.List.{flat_map}
use Rattle.cfgx_engine.proofs.resolve.by_facts.indexed_batches.Given as goal

abbrev pub invariant-loop-left : goal.invariant-loop-left
invariant-loop-left g l = flat_map (λ batch. batch) l.batches.items ++ l.left ≡ l.targets

abbrev pub decreases-loop-left : goal.decreases-loop-left
decreases-loop-left g l = length l.left
