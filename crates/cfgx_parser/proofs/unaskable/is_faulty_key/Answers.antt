use Rattle.std.proofs.Common.{Some, None, ◌∙◌}
use Rattle.cfgx_parser.specs.parsing.Fields.{plain_fault}
use Rattle.cfgx_parser.specs.parsing.NodeState.{classified}
use Rattle.cfgx_parser.proofs.FaultyKeys.{IsFaultyKey-bare, IsFaultyKey-valued}
use Rattle.cfgx_parser.proofs.unaskable.is_faulty_key.Goals as goal

pub returns-in-None : goal.returns-in-None
returns-in-None c = rw (c.is_err.ensures.value, c.in-None.is)
    (IsFaultyKey-bare c.args.key.now c.classify.result (c.classify.ensures
    ∙ (λ i. classified (record { key = c.text_at-key.ensures i; value = None }))))

pub returns-in-Err : goal.returns-in-Err
returns-in-Err c = rw c.in-Some.is
    (IsFaultyKey-valued c.args.key.now c.in-Some.value.now (plain_fault c.in-Err.fault)
    (c.in-Err.ensures ∙ (λ i. classified (record {
      key = c.text_at-key.ensures i;
      value = Some (c.text_at.ensures i);
    }))))
