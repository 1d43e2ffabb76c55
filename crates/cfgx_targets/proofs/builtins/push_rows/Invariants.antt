use Rattle.std.proofs.Common.{◌≡◌, take}
use Rattle.cfgx_targets.specs.Builtins.{builtin_rows}
use Rattle.cfgx_targets.proofs.builtins.push_rows.Given as goal

-- the rows so far are made
abbrev pub invariant-loop-apple : goal.invariant-loop-apple
invariant-loop-apple g l = l.rows.items ≡ take l.apple-index builtin_rows
