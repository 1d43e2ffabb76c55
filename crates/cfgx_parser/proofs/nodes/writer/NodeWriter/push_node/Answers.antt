use Rattle.cfgx_parser.proofs.Rooms.{arith, room, rules}
use Rattle.cfgx_parser.proofs.nodes.writer.NodeWriter.push_node.Goals as goal

pub len-requires : goal.len-requires
len-requires g c = room _ _ _ g.met.A.SmallAllocator.small (omega arith)

pub capacity-requires : goal.capacity-requires
capacity-requires g c = room _ _ _ g.met.A.SmallAllocator.small (omega arith)

pub len-requires-2 : goal.len-requires-2
len-requires-2 g c = room _ _ _ g.met.A.SmallAllocator.small (omega arith)

pub push_reserved-requires : goal.push_reserved-requires
push_reserved-requires g c = (room _ _ _ g.met.A.SmallAllocator.small (omega arith), search rules)
