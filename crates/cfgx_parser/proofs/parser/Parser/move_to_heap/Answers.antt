-- The open functions fit in memory.
use Rattle.cfgx_parser.proofs.Rooms.{arith, room}
use Rattle.cfgx_parser.proofs.parser.Parser.move_to_heap.Goals as goal

pub reserve-requires : goal.reserve-requires
reserve-requires g c = room _ _ _ g.met.A.SmallAllocator.small (omega arith)
