-- The nodes are those of the text's one tree.
use Rattle.cfgx_parser.proofs.Kept.{few-nodes}
use Rattle.cfg_expr.proofs.expr.condition.Condition.nodes.Goals as goal

pub returns-clause-nodes : goal.returns-clause-nodes
returns-clause-nodes c =
    let keeps = rw c.self.view_is at c.self.invariant in (keeps.one, keeps.keeps.nodes_are)

pub returns-clause-few : goal.returns-clause-few
returns-clause-few c = rw (← c.self.view_is) (few-nodes c.self.invariant)
