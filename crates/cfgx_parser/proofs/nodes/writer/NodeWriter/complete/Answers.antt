-- The nodes fit in memory.
use Rattle.cfgx_parser.proofs.Rooms.{arith, room}
use Rattle.cfgx_parser.proofs.nodes.writer.NodeWriter.complete.Goals as goal

pub deref_mut-requires : goal.deref_mut-requires
deref_mut-requires g c = room _ _ _ g.met.A.SmallAllocator.small (omega arith)
