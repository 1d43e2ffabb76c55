-- The answers that are left give the rest of both fillings, and there is room for these.
use Rattle.std.proofs.Common.{◌≡◌, ◌<◌, ◌≤◌, ◌+◌, ◌++◌, false, length, true, vec_capacity}
use Rattle.std.specs.List.{AllByRecursion}
use Rattle.cfg_expr.specs.nodes.Parity.{filled_at}
use Rattle.cfg_expr.proofs.expr.filling.set_fillings.Given as goal

abbrev pub invariant-loop-place : goal.invariant-loop-place
invariant-loop-place g l =
    let places = l.place-iterator.a.rest.now in let answers = l.place-iterator.b.rest.now in
    (length places ≡ length answers)
    × AllByRecursion (λ place. place < length l.negated) places
    × (length l.if_true.items + length places ≤ vec_capacity l.if_true)
    × (length l.if_false.items + length places ≤ vec_capacity l.if_false)
    × (l.if_true.items ++ filled_at l.negated places answers true
    ≡ filled_at l.negated l.places l.answers true)
    × (l.if_false.items ++ filled_at l.negated places answers false
    ≡ filled_at l.negated l.places l.answers false)
