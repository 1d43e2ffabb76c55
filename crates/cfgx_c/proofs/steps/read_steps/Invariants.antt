use Rattle.std.proofs.Common.{◌≡◌, length, map, take}
use Rattle.cfgx_c.specs.Steps.{c_step}
use Rattle.cfgx_c.proofs.steps.read_steps.Given as goal

-- the steps so far were written, and the list has an item for each step
abbrev pub invariant-loop-i : goal.invariant-loop-i
invariant-loop-i l = record {
  written : map c_step (take l.i l.list) ≡ take l.i l.steps;
  room : length l.list ≡ length l.steps;
}
