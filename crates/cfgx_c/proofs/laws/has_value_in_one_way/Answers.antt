use Rattle.std.proofs.Common.{◌∙◌, ap, length, map, sym}
use Rattle.cfgx_grammar.proofs.Answering.{only_tree}
use Rattle.cfgx_grammar.specs.Tree.{asked}
use Rattle.cfg_expr.specs.{Filling.three_valued, Fold.tree_fold}
use Rattle.cfgx_c.specs.Value.{answer_of, byte_of_value}
use Rattle.cfgx_c.proofs.laws.has_value_in_one_way.Goals as goal

pub returns-clause-same : goal.returns-clause-same
returns-clause-same c text answers one other this that =
    let same = only_tree this.one that.one.tree that.one.reads.has in
    this.value_is ∙ sym (that.value_is
    ∙ ap (λ t. byte_of_value (tree_fold three_valued t (map answer_of answers))) same)

pub returns-clause-not_miscounted : goal.returns-clause-not_miscounted
returns-clause-not_miscounted c text answers value has other =
    let same = only_tree other.0 has.one.tree has.one.reads.has in
    other.1 (has.count ∙ ap (λ t. length (asked t)) same)
