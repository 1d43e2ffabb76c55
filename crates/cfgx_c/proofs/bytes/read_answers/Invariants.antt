-- the answers so far were written, and the list has an item for each answer
use Rattle.std.proofs.Common.{◌≡◌, length, map, take}
use Rattle.cfgx_c.specs.Value.{answer_of}
use Rattle.cfgx_c.proofs.bytes.read_answers.Given as goal

abbrev pub invariant-loop-i : goal.invariant-loop-i
invariant-loop-i l = record {
  written : take l.i l.list ≡ map answer_of (take l.i l.bytes);
  room : length l.list ≡ length l.bytes;
}
