-- There is room for the places that are left.
use Rattle.std.proofs.Common.{◌≡◌, ◌≤◌}
use Rattle.cfg_expr.specs.nodes.AnswerSlots.{no_answers}
use Rattle.cfg_expr.proofs.expr.evaluating.push_empty_slots.Given as goal

abbrev pub invariant-loop-place : goal.invariant-loop-place
invariant-loop-place g l = (l.slots.items ≡ no_answers l._place) × (l.count ≤ l.slots.capacity)
