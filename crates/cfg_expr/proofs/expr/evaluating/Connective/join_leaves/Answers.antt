-- A function is moved to the end. What stood there is dropped, in whichever case it was.
use Rattle.std.proofs.Common.{◌+◌, ◌-◌, ◌≡◌, ◌∙◌, arith, set, sym}
use Rattle.cfg_expr.specs.nodes.Reading.{identity_of, join_of}
use Rattle.cfg_expr.specs.declared.expr.evaluating.Slot.TheVariants as slot
use Rattle.cfg_expr.proofs.evaluated.Joined.{JoinsLeaves, JoinsLeaves-function}
use Rattle.cfg_expr.proofs.expr.evaluating.Connective.join_leaves.Given.{Over}
use Rattle.cfg_expr.proofs.expr.evaluating.Connective.join_leaves.Goals.{In-Function}
use Rattle.cfg_expr.proofs.expr.evaluating.Connective.join_leaves.Goals as goal

moved : (g : Over) (c : In-Function g) → JoinsLeaves (join_of g.T.Logic c.args.self)
    (identity_of g.T.Logic c.args.self) c.args.members.now (c.loop-place.place - 1)
    c.loop-place.value (c.loop-place.begin - 1)
    (set (set c.loop-place.members (c.loop-place.place - 1) c.replace.new.dest)
    (c.loop-place.begin - 1) (slot.Function c.in-Function.function))
moved g c =
    let more = c.loop-place-test.true in
    let next_is : c.loop-place.place ≡ c.loop-place.place - 1 + 1 = omega (arith, more) in
    JoinsLeaves-function _ _ _ _ _ _ _ (c.loop-place.place - 1) _ c.index-members-place.result
    (omega (arith, c.loop-place.auto.members, c.loop-place.auto.place, more))
    (rw next_is at c.loop-place.invariant)
    (sym c.replace.ensures.value ∙ c.in-Function.is)

pub loop-place-preserved-in-Function : goal.loop-place-preserved-in-Function
loop-place-preserved-in-Function g c =
    moved g (goal.at.loop-place-preserved-in-Function g c).In-Function

pub loop-place-preserved-in-Function-2 : goal.loop-place-preserved-in-Function-2
loop-place-preserved-in-Function-2 g c =
    moved g (goal.at.loop-place-preserved-in-Function-2 g c).In-Function

pub loop-place-preserved-in-Function-3 : goal.loop-place-preserved-in-Function-3
loop-place-preserved-in-Function-3 g c =
    moved g (goal.at.loop-place-preserved-in-Function-3 g c).In-Function
