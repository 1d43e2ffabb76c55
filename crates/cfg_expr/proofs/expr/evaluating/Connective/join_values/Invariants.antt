-- What the slots from the place on make, and those in front of it.
use Rattle.std.proofs.Common.{◌≡◌, drop, take}
use Rattle.std.specs.List.{filter_map}
use Rattle.cfg_expr.specs.{Fold.from_last, nodes.Reading.{join_of, slot_value}}
use Rattle.cfg_expr.proofs.expr.evaluating.Connective.join_values.Given as goal

abbrev pub invariant-loop-place : goal.invariant-loop-place
invariant-loop-place g l = (l.value ≡ from_last (join_of g.T.Logic l.self) l.fn.value
    (filter_map slot_value (drop l.place l.initial.slots)))
    × (take l.place l.slots ≡ take l.place l.initial.slots)
