-- The places of the predicates fit in memory.
use Rattle.cfgx_parser.proofs.Rooms.{arith, room}
use Rattle.cfgx_parser.proofs.parser.Parser.places.Goals as goal

pub as_slice-requires : goal.as_slice-requires
as_slice-requires g c = room _ _ _ g.met.A.SmallAllocator.small (omega arith)
