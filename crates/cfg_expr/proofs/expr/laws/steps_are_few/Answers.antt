-- There is one step for each node.
use Rattle.std.proofs.Common.{arith}
use Rattle.cfgx_parser.proofs.NodeSizes.{nodes-twice, tree-opens}
use Rattle.cfg_expr.proofs.stepped.Numbers.{length-steps}
use Rattle.cfg_expr.proofs.expr.laws.steps_are_few.Goals as goal

pub returns-clause-by_tokens : goal.returns-clause-by_tokens
returns-clause-by_tokens c = λ tokens tree is.
    omega (arith, tree-opens tree tokens is, length-steps tree)

pub returns-clause-twice : goal.returns-clause-twice
returns-clause-twice c = λ text tree has.
    omega (arith, nodes-twice text tree has, length-steps tree)

pub returns-clause-by_bytes : goal.returns-clause-by_bytes
returns-clause-by_bytes c = λ text tree has.
    omega (arith, nodes-twice text tree has, length-steps tree)
