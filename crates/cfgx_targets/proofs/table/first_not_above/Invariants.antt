use Rattle.std.specs.List.{AllAdjacentBelow}
use Rattle.cfgx_targets.specs.Table.{IsBelow}
use Rattle.cfgx_targets.proofs.table.first_not_above.Given as goal

-- the triples of the rows before `place` increase
abbrev pub invariant-loop-place : goal.invariant-loop-place
invariant-loop-place g l = AllAdjacentBelow IsBelow l.rows l.place
