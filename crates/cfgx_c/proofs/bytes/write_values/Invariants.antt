use Rattle.std.proofs.Common.{◌≡◌, ◌++◌, drop, map, take}
use Rattle.cfgx_c.specs.Value.{byte_of_value}
use Rattle.cfgx_c.proofs.bytes.write_values.Given as goal

-- the bytes of the values so far were written
abbrev pub invariant-loop-i : goal.invariant-loop-i
invariant-loop-i l =
    l.buffer ≡ map byte_of_value (take l.i l.values) ++ drop l.i l.initial.buffer
