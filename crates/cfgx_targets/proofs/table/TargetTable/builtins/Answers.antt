use Rattle.std.proofs.Common.{subst, sym}
use Rattle.cfgx_targets.{specs.Table.AreIncreasing, proofs.TableLemmas.builtin_rows-increasing}
use Rattle.cfgx_targets.proofs.table.TargetTable.builtins.Goals as goal

pub from_increasing-requires : goal.from_increasing-requires
from_increasing-requires g c =
    subst (λ rows. AreIncreasing rows) (sym c.in_ok-rows.ensures) builtin_rows-increasing
