-- What was merged so far, and what is left.
use Rattle.std.proofs.Common.{◌≡◌, ◌+◌, ◌-◌, length}
use Rattle.cfgx_engine.specs.internal.Index.{paired}
use Rattle.cfgx_engine.proofs.MergeLemmas.{Merges}
use Rattle.cfgx_engine.proofs.resolve.index.merged.Given as goal

abbrev pub invariant-loop-i : goal.invariant-loop-i
invariant-loop-i g l = (length l.names.items ≡ length l.answers.items)
    × Merges (paired l.one_names l.one_answers) (paired l.other_names l.other_answers)
    (paired l.names.items l.answers.items) l.i l.j

abbrev pub decreases-loop-i : goal.decreases-loop-i
decreases-loop-i g l = (length l.one_names - l.i) + (length l.other_names - l.j)
