use Rattle.std.proofs.Common.{◌≡◌, ◌++◌, take}
use Rattle.cfgx_engine.specs.Sections.{digits}
use Rattle.cfgx_engine.proofs.engine.sections.push_digits.Given as goal

-- the digits of the values so far are added
abbrev pub invariant-loop-value : goal.invariant-loop-value
invariant-loop-value g l =
    l.printed.items ≡ l.fn.printed.items ++ digits (take l.value-index l.filling)
