use Rattle.std.proofs.Common.{◌↔◌, drop}
use Rattle.cfgx_c.specs.Ends.{AreEnds, AreEndsFrom}
use Rattle.cfgx_c.proofs.ends.are_ends.Given as goal

-- it depends on the ends that are left
abbrev pub invariant-loop-end : goal.invariant-loop-end
invariant-loop-end l =
    AreEnds l.ends l.len ↔ AreEndsFrom l.begin (drop l.end-index l.ends) l.len
