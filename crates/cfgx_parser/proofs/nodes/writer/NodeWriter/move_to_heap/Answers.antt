use Rattle.cfgx_parser.proofs.Rooms.{arith, room}
use Rattle.cfgx_parser.proofs.nodes.writer.NodeWriter.move_to_heap.Goals as goal

pub reserve-requires : goal.reserve-requires
reserve-requires g c = room _ _ _ g.met.A.SmallAllocator.small (omega arith)

pub reserve-requires-2 : goal.reserve-requires-2
reserve-requires-2 g c = room _ _ _ g.met.A.SmallAllocator.small (omega arith)

pub reserve-requires-3 : goal.reserve-requires-3
reserve-requires-3 g c = room _ _ _ g.met.A.SmallAllocator.small (omega arith)
