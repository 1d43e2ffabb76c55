-- The text has one tree, which is exact over its answers.
use Rattle.std.proofs.{Common.◌∙◌, Common.ap, Common.length, lemmas.Result.on_ok_weaker}
use Rattle.cfgx_grammar.specs.Tree.{asked}
use Rattle.cfgx_grammar.proofs.Answering.{only_tree}
use Rattle.cfg_expr.proofs.Exactness.{HoldsFillingsOf-decision, IsExact-fold}
use Rattle.cfg_expr.proofs.expr.condition.Condition.decide.Goals as goal

pub returns-clause-exact : goal.returns-clause-exact
returns-clause-exact g c =
    let one = c.decide.ensures.one in (one, IsExact-fold one.tree)

pub returns-clause-decision : goal.returns-clause-decision
returns-clause-decision g c =
    let given = c.requires in
    on_ok_weaker c.decide.result (λ decided.
    let all = given.2
    ∙ ap (λ tree. length (asked tree)) (only_tree decided.0 given.0 given.1) in (
      decided.0,
      record {
        is = decided.1;
        fillings = HoldsFillingsOf-decision decided.0.tree c.args.answers.now all
            c.decide.new.decision decided.1;
        exact = IsExact-fold decided.0.tree c.args.answers.now all;
      },
    )) c.decide.ensures.decision
