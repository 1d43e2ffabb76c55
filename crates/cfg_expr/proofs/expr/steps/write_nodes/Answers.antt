-- The step of one node more.
use Rattle.std.proofs.Common.{◌∙◌, ap, arith}
use Rattle.cfgx_parser.specs.nodes.Shape.{shape}
use Rattle.cfg_expr.specs.nodes.Reading.{shape_step}
use Rattle.cfg_expr.proofs.Written.{written_more}
use Rattle.cfg_expr.proofs.expr.steps.write_nodes.Goals as goal

pub loop-place-preserved : goal.loop-place-preserved
loop-place-preserved g c =
    rw (c.from_step.ensures ∙ ap g.T.FromStep.form c.step_of.ensures)
    (written_more (λ node. g.T.FromStep.form (shape_step (shape node))) c.args.nodes.now
    c.args.buffer.now c.loop-place.buffer c.loop-place.place _ c.loop-place-test.true
    (omega (arith, c.requires)) c.loop-place.invariant)
