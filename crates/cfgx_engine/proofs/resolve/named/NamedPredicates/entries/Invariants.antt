-- The entries of the names so far.
use Rattle.std.proofs.Common.{take}
use Rattle.cfgx_syntax.specs.Kleene.{lane}
use Rattle.cfgx_engine.proofs.IndexLemmas.{Lists}
use Rattle.cfgx_engine.proofs.resolve.named.NamedPredicates.entries.Given as goal

abbrev pub invariant-loop-named : goal.invariant-loop-named
invariant-loop-named g l =
    Lists (take l.named-index l.self) (λ i. lane i l.answers) l.names.items l.answered.items
