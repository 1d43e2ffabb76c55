-- The nodes and the places fit in memory.
use Rattle.cfgx_parser.proofs.Rooms.{arith, room}
use Rattle.cfg_expr.proofs.expr.Expression.condition.Goals as goal

pub as_slice-requires : goal.as_slice-requires
as_slice-requires g c = room _ _ _ g.met.A.SmallAllocator.small (omega arith)

pub as_slice-requires-2 : goal.as_slice-requires-2
as_slice-requires-2 g c = room _ _ _ g.met.A.SmallAllocator.small (omega arith)
