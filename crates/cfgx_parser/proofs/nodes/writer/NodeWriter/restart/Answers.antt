-- The vectors of a writer fit in memory, and are empty.
use Rattle.std.proofs.Common.{sym, ap, length}
use Rattle.cfgx_parser.proofs.Rooms.{arith, room}
use Rattle.cfgx_parser.proofs.nodes.writer.NodeWriter.restart.Goals as goal

pub clear-requires : goal.clear-requires
clear-requires g c = room _ _ _ g.met.A.SmallAllocator.small (omega arith)

pub clear-requires-2 : goal.clear-requires-2
clear-requires-2 g c = room _ _ _ g.met.A.SmallAllocator.small (omega arith)

pub clear-requires-3 : goal.clear-requires-3
clear-requires-3 g c = room _ _ _ g.met.A.SmallAllocator.small (omega arith)

pub invariant_of-self : goal.invariant_of-self
invariant_of-self g c =
    record {
      counted =
          (sym (ap length c.clear.ensures.items), sym (ap length c.clear-2.ensures.items));
      few = omega (arith, ap length c.clear-2.ensures.items, ap length c.clear-3.ensures.items);
    }
