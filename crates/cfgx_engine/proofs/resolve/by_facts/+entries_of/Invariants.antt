-- Each half has fewer targets.
use Rattle.std.proofs.Common.{length}
use Rattle.cfgx_engine.proofs.resolve.by_facts.+entries_of.Given as goal

abbrev pub decreases-entries_of : goal.decreases-entries_of
decreases-entries_of g l = length l.targets.now
