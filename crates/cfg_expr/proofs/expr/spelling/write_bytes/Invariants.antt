use Rattle.std.proofs.Common.{length}
use Rattle.cfg_expr.specs.Writing.{Takes}
use Rattle.cfg_expr.proofs.expr.spelling.write_bytes.Given as goal

-- the bytes in front of `left` were taken
abbrev pub invariant-loop-left : goal.invariant-loop-left
invariant-loop-left g l =
    Takes (g.W.Write.contents l.fn.writer) (g.W.Write.contents l.writer) l.bytes l.left

abbrev pub decreases-loop-left : goal.decreases-loop-left
decreases-loop-left g l = length l.left
