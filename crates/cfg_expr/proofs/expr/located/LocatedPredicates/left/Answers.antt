-- Each place names a predicate.
use Rattle.std.proofs.Common.{sym, ap, ◌∙◌, length}
use Rattle.cfg_expr.proofs.AskedPredicates.{length-named}
use Rattle.cfg_expr.proofs.expr.located.LocatedPredicates.left.Goals as goal

pub returns : goal.returns
returns c =
    let inside = c.self.inside in
    let (text, names) = c.self.invariant in
    sym (length-named text inside.nodes.now inside.places.now names) ∙ ap length c.self.view_is
