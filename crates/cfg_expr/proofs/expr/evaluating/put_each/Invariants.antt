-- The answers that are left, put at the places that are left, leave what all of them leave.
use Rattle.std.proofs.Common.{◌≡◌, ◌<◌, List, length}
use Rattle.std.specs.{Iterator.AlwaysYields, List.AllByRecursion}
use Rattle.cfg_expr.specs.nodes.AnswerSlots.{with_answers}
use Rattle.cfg_expr.proofs.expr.evaluating.put_each.Given as goal

abbrev pub invariant-loop-place : goal.invariant-loop-place
invariant-loop-place g l =
    let places = l.place-iterator.a.rest.now in
    AllByRecursion (λ place. place < length l.slots) places
    × ((given : List _) → AlwaysYields g.I.Iterator.next_gives (λ x. x) l.fn.answers given
    → (left : List _) × AlwaysYields g.I.Iterator.next_gives (λ x. x) l.place-iterator.b left
    × (with_answers l.slots places left ≡ with_answers l.initial.slots l.places given))
