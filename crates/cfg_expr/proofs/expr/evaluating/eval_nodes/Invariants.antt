-- What the nodes from the place on leave on the stack. The slots in front of it are as they were.
use Rattle.std.proofs.Common.{◌≡◌, take}
use Rattle.cfg_expr.specs.nodes.Reading.{items}
use Rattle.cfg_expr.proofs.evaluated.Read.{Reading}
use Rattle.cfg_expr.proofs.expr.evaluating.eval_nodes.Given as goal

abbrev pub invariant-loop-place : goal.invariant-loop-place
invariant-loop-place g l = record {
  reading : Reading g.T.Logic (items g.T.Logic l.nodes l.fn.slots) l.place l.stack;
  front : take l.place l.stack.slots.now ≡ take l.place l.fn.slots;
}
