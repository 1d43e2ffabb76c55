-- The numbers that are left, put at the places that are left, leave what all of them leave.
use Rattle.std.proofs.Common.{◌≡◌, ◌-◌, ◌<◌, drop, length, map}
use Rattle.std.specs.List.{AllByRecursion, range_with_len}
use Rattle.cfg_expr.specs.nodes.AnswerSlots.{put_at}
use Rattle.cfg_expr.specs.declared.expr.steps.Step.TheVariants.{Ask}
use Rattle.cfg_expr.proofs.expr.steps.write_numbers.Given as goal

abbrev pub invariant-loop-number : goal.invariant-loop-number
invariant-loop-number g l =
    AllByRecursion (λ place. place < length l.buffer) (drop l.number l.places)
    × (put_at l.buffer (drop l.number l.places)
    (map (λ number. g.T.FromStep.form (Ask number))
    (range_with_len l.number (length l.places - l.number)))
    ≡ put_at l.initial.buffer l.places
    (map (λ number. g.T.FromStep.form (Ask number)) (range_with_len 0 (length l.places))))
