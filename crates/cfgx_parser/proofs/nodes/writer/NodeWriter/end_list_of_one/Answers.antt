use Rattle.std.proofs.lemmas.Grind.{common_steps}
use Rattle.cfgx_parser.proofs.Rooms.{arith, room}
use Rattle.cfgx_parser.proofs.nodes.writer.NodeWriter.end_list_of_one.Goals as goal

pub pop-requires : goal.pop-requires
pop-requires g c = room _ _ _ g.met.A.SmallAllocator.small (omega arith)

pub push-requires : goal.push-requires
push-requires g c = room _ _ _ g.met.A.SmallAllocator.small (omega arith)

pub capacity-requires : goal.capacity-requires
capacity-requires g c = room _ _ _ g.met.A.SmallAllocator.small (omega arith)

pub returns-in_err-push-clause-room : goal.returns-in_err-push-clause-room
returns-in_err-push-clause-room g c = grind (arith, common_steps)
