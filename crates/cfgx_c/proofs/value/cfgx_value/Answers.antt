-- The text that is read is the one that was passed, and its predicates are those of its one tree.
use Rattle.std.proofs.Common.{◌∙◌, ap, length, sym}
use Rattle.cfgx_grammar.proofs.Answering.{only_tree}
use Rattle.cfgx_grammar.specs.Tree.{asked}
use Rattle.cfgx_c.specs.Value.{byte_of_value}
use Rattle.cfgx_c.proofs.value.cfgx_value.Goals as goal

pub returns-clause-done : goal.returns-clause-done
returns-clause-done c is =
    let given = c.in-Ok.ensures.counted in
    let value = c.in-Ok-eval_over_bytes.ensures in
    rw (← c.in-Ok.ensures.ok.0) record {
      one = value.0;
      count = given.2 ∙ ap (λ tree. length (asked tree)) (only_tree value.0 given.0 given.1);
      value_is = c.byte_of_value-2.ensures ∙ ap byte_of_value value.1;
    }

pub returns-in-Err-clause-miscounted : goal.returns-in-Err-clause-miscounted
returns-in-Err-clause-miscounted c is =
    c.in-Err.ensures.other_count (sym c.report.ensures.status ∙ is)
