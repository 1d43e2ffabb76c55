-- The located predicates ask what the text's one tree asks.
use Rattle.std.{proofs.Common.{◌∙◌, subst, sym}, specs.List.AllByRecursion}
use Rattle.cfgx_grammar.{specs.WellFormed.IsWellFormed, proofs.alone.well_formed_tree}
use Rattle.cfg_expr.proofs.Located.{asks-located, cuts-located}
use Rattle.cfg_expr.proofs.expr.condition.Condition.predicates.Goals as goal

pub new-requires : goal.new-requires
new-requires c = rw c.self.view_is (cuts-located _ _ _ c.located_predicates.ensures.each)

-- what a text asks can stand in a text
pub returns : goal.returns
returns c =
    let located = c.located_predicates.ensures in
    let asks = c.new.ensures ∙ rw c.self.view_is (asks-located _ _ _ located.each) in
    record {
      asked = (located.one, asks);
      well_formed = subst (AllByRecursion IsWellFormed) (sym asks)
          (well_formed_tree _ located.one.tree located.one.reads.has);
    }
