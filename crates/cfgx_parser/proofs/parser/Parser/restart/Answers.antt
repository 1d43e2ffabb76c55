-- The open functions fit in memory.
use Rattle.cfgx_parser.proofs.Rooms.{arith, room}
use Rattle.cfgx_parser.proofs.parser.Parser.restart.Goals as goal

pub clear-requires : goal.clear-requires
clear-requires g c = room _ _ _ g.met.A.SmallAllocator.small (omega arith)
