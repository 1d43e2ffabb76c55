use Rattle.std.proofs.lemmas.Grind.{common_steps}
use Rattle.cfgx_parser.proofs.Rooms.{arith, room}
use Rattle.cfgx_parser.proofs.nodes.writer.NodeWriter.end_list_of_many.Goals as goal

pub extend_from_slice-requires : goal.extend_from_slice-requires
extend_from_slice-requires g c = room _ _ _ g.met.A.SmallAllocator.small (omega arith)

pub as_slice-requires : goal.as_slice-requires
as_slice-requires g c = room _ _ _ g.met.A.SmallAllocator.small (omega arith)

pub truncate-requires : goal.truncate-requires
truncate-requires g c = room _ _ _ g.met.A.SmallAllocator.small (omega arith)

pub capacity-requires : goal.capacity-requires
capacity-requires g c = room _ _ _ g.met.A.SmallAllocator.small (omega arith)

pub returns-in_err-extend_from_slice-clause-room :
    goal.returns-in_err-extend_from_slice-clause-room
returns-in_err-extend_from_slice-clause-room g c = grind (arith, common_steps)
