use Rattle.std.proofs.lemmas.Grind.{common_steps}
use Rattle.cfgx_parser.proofs.Rooms.{arith, room}
use Rattle.cfgx_parser.proofs.nodes.writer.NodeWriter.push_leaf.Goals as goal

pub push-requires : goal.push-requires
push-requires g c = room _ _ _ g.met.A.SmallAllocator.small (omega arith)

pub len-requires : goal.len-requires
len-requires g c = room _ _ _ g.met.A.SmallAllocator.small (omega arith)

pub returns-in_err-push-clause-kept : goal.returns-in_err-push-clause-kept
returns-in_err-push-clause-kept g c = grind (arith, common_steps)

pub returns-in_ok-push-clause-kept : goal.returns-in_ok-push-clause-kept
returns-in_ok-push-clause-kept g c = grind (arith, common_steps)

pub returns-else-is_asked-clause-kept : goal.returns-else-is_asked-clause-kept
returns-else-is_asked-clause-kept g c = grind (arith, common_steps)

pub capacity-requires : goal.capacity-requires
capacity-requires g c = room _ _ _ g.met.A.SmallAllocator.small (omega arith)

pub returns-in_err-push-clause-room : goal.returns-in_err-push-clause-room
returns-in_err-push-clause-room g c = grind (arith, common_steps)
