-- The nodes fit in memory.
use Rattle.cfgx_parser.proofs.Rooms.{arith, room}
use Rattle.cfgx_parser.proofs.nodes.writer.NodeWriter.grow.Goals as goal

pub reserve-requires : goal.reserve-requires
reserve-requires g c = room _ _ _ g.met.A.SmallAllocator.small (omega arith)

pub reserve_exact-requires : goal.reserve_exact-requires
reserve_exact-requires g c = room _ _ _ g.met.A.SmallAllocator.small (omega arith)
