-- The copies are equal to what is copied.
use Rattle.std.proofs.Common.{◌∙◌, arith}
use Rattle.cfgx_parser.proofs.Rooms.{room}
use Rattle.cfg_expr.proofs.expr.Expression.try_clone.Goals as goal

pub invariant_of-result : goal.invariant_of-result
invariant_of-result g c =
    let text = c.in_ok-from_str.ensures.ok ∙ c.as_str.ensures.value in
    let nodes = c.in_ok-from_slice.ensures.ok ∙ c.as_slice.ensures in
    let places = c.in_ok-from_slice-2.ensures.ok ∙ c.as_slice-2.ensures in
    rw (text, nodes, places) c.self.invariant

pub from_slice-requires-2 : goal.from_slice-requires-2
from_slice-requires-2 g c = room _ _ _ g.met.A.SmallAllocator.small (omega arith)

pub from_slice-requires : goal.from_slice-requires
from_slice-requires g c = room _ _ _ g.met.A.SmallAllocator.small (omega arith)

pub as_slice-requires : goal.as_slice-requires
as_slice-requires g c = room _ _ _ g.met.A.SmallAllocator.small (omega arith)

pub as_slice-requires-2 : goal.as_slice-requires-2
as_slice-requires-2 g c = room _ _ _ g.met.A.SmallAllocator.small (omega arith)
