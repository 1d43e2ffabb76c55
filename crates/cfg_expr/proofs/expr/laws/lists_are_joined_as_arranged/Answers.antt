use Rattle.std.proofs.Common.{ap}
use Rattle.cfg_expr.specs.Fold.{list_value}
use Rattle.cfg_expr.proofs.Arranging.{values_of-arranged}
use Rattle.cfg_expr.proofs.expr.laws.lists_are_joined_as_arranged.Goals as goal

pub returns : goal.returns
returns g c = λ function trees. ap (list_value g.T.Logic function)
    (values_of-arranged g.T.Logic trees)
