use Rattle.std.proofs.lemmas.Grind.{common_steps}
use Rattle.cfgx_parser.proofs.NeededRoom.{room-functions, OnErr-always}
use Rattle.cfgx_parser.proofs.Rooms.{arith, room, rules}
use Rattle.cfgx_parser.proofs.parser.Parser.open.Goals as goal

pub len-requires : goal.len-requires
len-requires g c = room _ _ _ g.met.A.SmallAllocator.small (omega arith)

pub capacity-requires : goal.capacity-requires
capacity-requires g c = room _ _ _ g.met.A.SmallAllocator.small (omega arith)

pub reserve-requires : goal.reserve-requires
reserve-requires g c = room _ _ _ g.met.A.SmallAllocator.small (omega arith)

pub push_reserved-requires : goal.push_reserved-requires
push_reserved-requires g c = (room _ _ _ g.met.A.SmallAllocator.small (omega arith), search rules)

pub invariant_of-self-2 : goal.invariant_of-self-2
invariant_of-self-2 g c = grind (arith, common_steps)

pub returns-clause-opened : goal.returns-clause-opened
returns-clause-opened g c = grind (arith, common_steps)

pub returns-in_err-reserve-clause-room : goal.returns-in_err-reserve-clause-room
returns-in_err-reserve-clause-room g c =
    OnErr-always c.from_residual-in_err-reserve.result
    (room-functions {A = g.row.A.Denot} c.args.self.now (grind (
      arith,
      c.len.ensures.value,
      c.capacity.ensures.at_least_inline,
      c.if-len-capacity.true,
    )))
