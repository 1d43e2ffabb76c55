-- The nodes and the places are those of the text's one tree.
use Rattle.std.proofs.Common.{subst}
use Rattle.cfgx_parser.specs.nodes.KeepsTree.{predicates_at}
use Rattle.cfg_expr.specs.Located.{AreLocated}
use Rattle.cfg_expr.proofs.AskedPredicates.{NamePredicates-kept}
use Rattle.cfg_expr.proofs.Located.{AreLocated-kept}
use Rattle.cfg_expr.proofs.expr.condition.Condition.located_predicates.Goals as goal

pub invariant_of-result : goal.invariant_of-result
invariant_of-result c =
    (c.self.inside.original.now, NamePredicates-kept c.self.invariant.keeps)

pub returns : goal.returns
returns c =
    let inside = c.self.inside in
    subst (λ text. AreLocated text (predicates_at inside.nodes.now inside.places.now))
    c.self.view_is
    (AreLocated-kept inside.original.now inside.nodes.now inside.places.now c.self.invariant)
