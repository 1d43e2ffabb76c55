use Rattle.cfg_expr.specs.nodes.AnswerSlots.{Asking}
use Rattle.cfg_expr.proofs.expr.evaluating.ask_each.Given as goal

abbrev pub invariant-loop-place : goal.invariant-loop-place
invariant-loop-place g l = Asking g.EP.FnMut l.fn.ep l.fn.predicates l.places l.initial.slots l.ep
    l.place-iterator.b l.place-iterator.a.rest.now l.slots
