use Rattle.cfg_expr.specs.Homomorphism.{Passes}
use Rattle.cfg_expr.proofs.MappedValues.{tree_fold-mapped}
use Rattle.cfg_expr.proofs.expr.laws.homomorphisms_keep_values.Goals as goal

pub returns : goal.returns
returns g c test to is tree answers all =
    tree_fold-mapped g.T.Logic g.U.Logic (Passes test) to is tree answers all
