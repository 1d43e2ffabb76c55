-- What was passed stands in front, and the rest of the pass finds what is left of the whole one.
use Rattle.std.proofs.Common.{◌≡◌, ◌++◌, drop, false, length, map, take}
use Rattle.cfgx_parser.specs.nodes.Shape.{shape}
use Rattle.cfg_expr.specs.nodes.Parity.{pass}
use Rattle.cfg_expr.proofs.expr.filling.pass_nodes.Given as goal

abbrev pub invariant-loop-place : goal.invariant-loop-place
invariant-loop-place l = record {
  many : length l.negated ≡ length l.nodes;
  left : take l.place l.negated
      ++ pass (map shape (drop l.place l.nodes)) (drop l.place l.negated) l.is_odd
      ≡ pass (map shape l.nodes) l.initial.negated false;
}
