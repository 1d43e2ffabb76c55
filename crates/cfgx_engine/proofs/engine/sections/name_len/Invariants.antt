-- No tab stands before `len`.
use Rattle.std.{proofs.Common.{◌≡◌, ◌+◌, ◌-◌, ◌≤◌, drop, length}, specs.List.position_or_len}
use Rattle.cfgx_engine.specs.Sections.{is_tab}
use Rattle.cfgx_engine.proofs.engine.sections.name_len.Given as goal

abbrev pub invariant-loop-len : goal.invariant-loop-len
invariant-loop-len l = record {
  inside : l.len ≤ length l.bytes;
  passed : position_or_len is_tab l.bytes ≡ l.len + position_or_len is_tab (drop l.len l.bytes);
}

abbrev pub decreases-loop-len : goal.decreases-loop-len
decreases-loop-len l = length l.bytes - l.len
