-- There is room for one more place, while fewer than all are held.
use Rattle.std.proofs.{Common.{◌∙◌, ap, arith, length, rules}, lemmas.List.length-replicate}
use Rattle.std.proofs.lemmas.Grind.{common_steps}
use Rattle.cfg_expr.proofs.Rooms.{room}
use Rattle.cfg_expr.proofs.expr.evaluating.push_empty_slots.Goals as goal

pub push_reserved-requires : goal.push_reserved-requires
push_reserved-requires g c =
    let held = ap length c.loop-place.invariant.0 ∙ length-replicate c.loop-place._place _ in (
      room _ _ g.met.T.Logic.small,
      omega (arith, held, c.loop-place-test.true, c.loop-place.invariant.1),
    )

pub reserve_exact-requires : goal.reserve_exact-requires
reserve_exact-requires g c = room _ _ g.met.T.Logic.small

pub loop-place-preserved : goal.loop-place-preserved
loop-place-preserved g c = grind (arith, common_steps)

pub returns-in_err-reserve_exact-clause-succeeds : goal.returns-in_err-reserve_exact-clause-succeeds
returns-in_err-reserve_exact-clause-succeeds g c = search rules
