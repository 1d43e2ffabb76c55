-- The tests by which a target is matched decide whether values are the same.
use Rattle.std.proofs.Common.{arith, ◌≡◌, Decides}
use Rattle.cfgx_fields.specs.declared.atomic.HasAtomic.{HasAtomic}
use Rattle.cfg_expr.specs.Matching.{is_same_width}

pub is_same_width-Decides : (one other : HasAtomic)
    → Decides (is_same_width one other) (one ≡ other)
is_same_width-Decides one other = grind arith
