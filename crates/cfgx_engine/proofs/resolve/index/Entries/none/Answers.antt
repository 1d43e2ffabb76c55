use Rattle.std.proofs.Common.{refl}
use Rattle.std.specs.List.Sorted.{IsStrictlySortedBy}
use Rattle.cfgx_engine.proofs.resolve.index.Entries.none.Goals as goal

pub invariant_of-result : goal.invariant_of-result
unfolding IsStrictlySortedBy
invariant_of-result g c = rw (c.new.ensures.items, c.new-2.ensures.items) (refl, tt)
