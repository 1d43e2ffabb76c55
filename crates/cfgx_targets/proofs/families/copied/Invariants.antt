use Rattle.std.proofs.Common.{◌≡◌, take}
use Rattle.cfgx_targets.proofs.families.copied.Given as goal

-- the families before the index have been copied
abbrev pub invariant-loop-family : goal.invariant-loop-family
invariant-loop-family g l = l.copies.items ≡ take l.family-index l.families
