use Rattle.std.proofs.lemmas.Grind.{common_steps}
use Rattle.cfgx_parser.proofs.Rooms.{arith, room}
use Rattle.cfgx_parser.proofs.parser.Parser.close.Goals as goal

pub pop-requires : goal.pop-requires
pop-requires g c = room _ _ _ g.met.A.SmallAllocator.small (omega arith)

pub invariant_of-self : goal.invariant_of-self
invariant_of-self g c = grind (arith, common_steps)

pub overflow_add-members : goal.overflow_add-members
overflow_add-members g c = grind (arith, common_steps)

pub returns-then-not-allows_count : goal.returns-then-not-allows_count
returns-then-not-allows_count g c = grind (arith, common_steps)

pub returns-in_err-write_pending : goal.returns-in_err-write_pending
returns-in_err-write_pending g c = grind (arith, common_steps)

pub invariant_of-self-2 : goal.invariant_of-self-2
invariant_of-self-2 g c = grind (arith, common_steps)

pub count_member-requires : goal.count_member-requires
count_member-requires g c = grind (arith, common_steps)

pub returns : goal.returns
returns g c = grind (arith, common_steps)
