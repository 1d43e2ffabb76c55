-- The functions, which were moved, are joined to the leaves.
use Rattle.std.proofs.Common.{◌≡◌, ◌-◌, ◌∙◌, arith, drop, length, length-drop, take, take_all}
use Rattle.cfg_expr.proofs.evaluated.Joined.{joined-twice}
use Rattle.cfg_expr.proofs.expr.evaluating.Connective.join_all.Goals as goal

pub returns : goal.returns
returns g c =
    let joins = c.join_leaves-leaves in
    let members = joins.new.members in
    let begin = joins.result.1 in
    let rest : take (length members - begin) (drop begin members) ≡ drop begin members =
    take_all (length members - begin) (drop begin members)
    (omega (arith, length-drop begin members)) in
    c.join_values.ensures
    ∙ rw (rest, joins.ensures.functions, joins.ensures.value)
    (joined-twice g.T.Logic c.args.self c.args.members.now)
