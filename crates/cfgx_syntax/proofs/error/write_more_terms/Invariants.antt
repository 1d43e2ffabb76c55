use Rattle.std.{proofs.Common.{map, take}, specs.Fmt.{HasWritten, IsPlainFormatter}}
use Rattle.cfgx_syntax.specs.Error.{more_terms_text}
use Rattle.cfgx_syntax.proofs.error.write_more_terms.Given as goal

-- the terms before the index have been written
abbrev pub invariant-loop-term : goal.invariant-loop-term
invariant-loop-term g l = IsPlainFormatter l.fn.f
    → HasWritten g.W.Write.write_str_gives l.fn.f
    (more_terms_text (map (λ t. t.now) (take l.term-index l.terms))) l.f
