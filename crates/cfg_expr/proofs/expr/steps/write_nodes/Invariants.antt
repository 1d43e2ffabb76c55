-- The steps of the nodes so far, and then what stood there.
use Rattle.std.proofs.Common.{◌≡◌, ◌++◌, drop, map, take}
use Rattle.cfgx_parser.specs.nodes.Shape.{shape}
use Rattle.cfg_expr.specs.nodes.Reading.{shape_step}
use Rattle.cfg_expr.proofs.expr.steps.write_nodes.Given as goal

abbrev pub invariant-loop-place : goal.invariant-loop-place
invariant-loop-place g l = l.buffer
    ≡ map (λ node. g.T.FromStep.form (shape_step (shape node))) (take l.place l.nodes)
    ++ drop l.place l.initial.buffer
