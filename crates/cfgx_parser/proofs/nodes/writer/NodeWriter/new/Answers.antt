-- The vectors of a writer fit in memory.
use Rattle.cfgx_parser.proofs.Rooms.{arith, room}
use Rattle.cfgx_parser.proofs.nodes.writer.NodeWriter.new.Goals as goal

pub new-requires : goal.new-requires
new-requires g c = room _ _ _ g.met.A.SmallAllocator.small (omega arith)

pub new-requires-2 : goal.new-requires-2
new-requires-2 g c = room _ _ _ g.met.A.SmallAllocator.small (omega arith)

pub new-requires-3 : goal.new-requires-3
new-requires-3 g c = room _ _ _ g.met.A.SmallAllocator.small (omega arith)
