-- The predicates that were asked are those of the one tree.
use Rattle.std.proofs.Common.{◌∙◌, ap, vec_items}
use Rattle.cfgx_grammar.proofs.Answering.{only_tree}
use Rattle.cfgx_engine.proofs.resolve.Decider.decide.Goals as goal

pub returns-clause-decision : goal.returns-clause-decision
returns-clause-decision g c =
    let asks = c.predicates.ensures.asked in
    let decided = c.in_ok-decide.ensures.decision in
    let same = only_tree decided.0 asks.0.tree asks.0.reads.has in (
      decided.0,
      rw (c.as_slice.ensures.value, c.in_ok-ask_each.ensures, asks.1, same) at decided.1,
    )

pub returns-clause-answers : goal.returns-clause-answers
returns-clause-answers g c =
    let asks = c.predicates.ensures.asked in
    (asks.0, ap vec_items c.swap.ensures.x_after ∙ (rw asks.1 at c.in_ok-ask_each.ensures))
