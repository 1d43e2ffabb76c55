-- The bytes before `len` are all of the run.
use Rattle.std.{proofs.Common.{◌≡◌, ◌+◌, ◌-◌, ◌≤◌, length, drop}, specs.List.prefix_len}
use Rattle.cfgx_syntax.specs.lexing.ByteClasses.{in_run}
use Rattle.cfgx_syntax.proofs.lexer.bytes.Run.len.Given as goal

abbrev pub invariant-loop-len : goal.invariant-loop-len
invariant-loop-len l = record {
  inside : l.len ≤ length l.bytes;
  passed : prefix_len (in_run l.self) l.bytes
      ≡ l.len + prefix_len (in_run l.self) (drop l.len l.bytes);
}

abbrev pub decreases-loop-len : goal.decreases-loop-len
decreases-loop-len l = length l.bytes - l.len
