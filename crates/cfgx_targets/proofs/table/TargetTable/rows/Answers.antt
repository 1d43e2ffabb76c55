use Rattle.std.proofs.Common.{◌∙◌, sym, subst}
use Rattle.cfgx_targets.specs.Table.{AreIncreasing}
use Rattle.cfgx_targets.proofs.table.TargetTable.rows.Goals as goal

pub returns : goal.returns
returns g c = record {
  rows = c.as_slice.ensures.value ∙ c.self.view_is;
  increasing = subst AreIncreasing (sym c.as_slice.ensures.value) c.self.invariant;
}
