-- One node more is read, or reading stops there.
use Rattle.std.proofs.Common.{◌-◌, ◌∙◌, arith, refl, sym}
use Rattle.cfg_expr.proofs.evaluated.Read.{Reading-begins, Reading-next, Reading-stops, fronts}
use Rattle.cfg_expr.proofs.evaluated.Read.{length-items, node-at}
use Rattle.cfg_expr.proofs.expr.evaluating.eval_nodes.Goals as goal

pub loop-place-init : goal.loop-place-init
loop-place-init g c = record {
  reading = Reading-begins g.T.Logic _ _ _
      (length-items g.T.Logic c.args.nodes.now c.args.slots.now c.requires) c.requires c.requires;
  front = refl;
}

pub loop-place-preserved : goal.loop-place-preserved
loop-place-preserved g c =
    let from = c.loop-place.place in
    let more = c.loop-place-test.true in
    let so_far = c.loop-place.invariant in
    record {
      reading = Reading-next g.T.Logic (from - 1) from
          (node-at g.T.Logic c.args.nodes.now c.args.slots.now c.loop-place.stack.slots.now
          (from - 1) from _ (omega (arith, more)) (omega (arith, c.loop-place.auto.place, more))
          c.requires so_far.front) so_far.reading c.read.new.self c.in_ok-read.ensures.entries
          c.read.ensures.within.0 c.read.ensures.within.1;
      front = fronts _ _ _ (from - 1) from (omega arith) c.read.ensures.front so_far.front;
    }

pub returns-in_err-read : goal.returns-in_err-read
returns-in_err-read g c =
    let from = c.loop-place.place in
    let more = c.loop-place-test.true in
    let so_far = c.loop-place.invariant in
    c.from_residual.ensures
    ∙ sym (Reading-stops g.T.Logic (from - 1) from
    (node-at g.T.Logic c.args.nodes.now c.args.slots.now c.loop-place.stack.slots.now
    (from - 1) from _ (omega (arith, more)) (omega (arith, c.loop-place.auto.place, more))
    c.requires so_far.front) so_far.reading c.in_err-read.ensures.entries)
