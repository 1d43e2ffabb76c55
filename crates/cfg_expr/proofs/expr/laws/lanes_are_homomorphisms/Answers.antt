use Rattle.cfg_expr.proofs.MappedValues.{IsHomomorphism-lane_passes}
use Rattle.cfg_expr.proofs.expr.laws.lanes_are_homomorphisms.Goals as goal

pub returns : goal.returns
returns c = IsHomomorphism-lane_passes
