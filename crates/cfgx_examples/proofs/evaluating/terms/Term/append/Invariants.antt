use Rattle.std.proofs.Common.{◌≡◌, ◌++◌, take}
use Rattle.cfgx_examples.specs.Terms.{cut}
use Rattle.cfgx_examples.proofs.evaluating.terms.Term.append.Given as goal

-- the bytes before this one are written
abbrev pub invariant-loop-byte : goal.invariant-loop-byte
invariant-loop-byte l = l.self ≡ cut (l.initial.self ++ take l.byte-index l.bytes)
