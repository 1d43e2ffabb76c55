use Rattle.std.proofs.Common.{◌≡◌}
use Rattle.cfgx_targets.proofs.list.sorted.Given as goal

-- `sorted` has the items that were yielded
abbrev pub invariant-loop-item : goal.invariant-loop-item
invariant-loop-item g l = l.sorted.items ≡ l.yielded
