use Rattle.std.proofs.Common.{◌≡◌, ◌++◌}
use Rattle.cfgx_engine.specs.Output.{lines}
use Rattle.cfgx_engine.proofs.engine.listing.lines.Given as goal

-- the lines so far, and then the lines to come, are all lines
abbrev pub invariant-loop-predicate : goal.invariant-loop-predicate
invariant-loop-predicate g l = l.printed.items ++ lines l.predicate-iterator ≡ lines l.fn.predicates
