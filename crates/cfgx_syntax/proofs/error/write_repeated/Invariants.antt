use Rattle.std.specs.{List.repeat, Fmt.HasWritten, Fmt.IsPlainFormatter}
use Rattle.cfgx_syntax.proofs.error.write_repeated.Given as goal

-- the text has been written once for each turn of the loop
abbrev pub invariant-loop-time : goal.invariant-loop-time
invariant-loop-time g l =
    IsPlainFormatter l.fn.f
    → HasWritten g.W.Write.write_str_gives l.fn.f (repeat l._time l.text) l.f
