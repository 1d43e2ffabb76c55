use Rattle.std.proofs.Common.{◌≡◌, ◌≤◌, length, map, take}
use Rattle.cfgx_c.specs.Value.{answer_of}
use Rattle.cfgx_c.proofs.bytes.answers_in.Given as goal

-- the answers so far were pushed, and there is room for all
abbrev pub invariant-loop-byte : goal.invariant-loop-byte
invariant-loop-byte l = record {
  pushed : l.answers.items ≡ map answer_of (take l.byte-index l.bytes);
  room : length l.bytes ≤ l.answers.capacity;
}
