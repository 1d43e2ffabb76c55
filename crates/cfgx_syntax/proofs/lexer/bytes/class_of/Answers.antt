-- The table holds a class of each byte.
use Rattle.std.{proofs.Common.{map, refl, arith}, specs.List.range_with_len}
use Rattle.cfgx_syntax.specs.declared.lexer.bytes.Class.TheVariants.{Letter}
use Rattle.cfgx_syntax.proofs.Classes.{class_of, each, each-at}
use Rattle.cfgx_syntax.proofs.lexer.bytes.class_of.Goals as goal

pub returns : goal.returns
unfolding class_of each
returns c =
    each-at 0 (map class_of (range_with_len 0 256)) c.from.result c.args.byte Letter refl
    (omega arith) (omega arith)
