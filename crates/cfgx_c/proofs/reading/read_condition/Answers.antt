-- The fault of the text.
use Rattle.cfgx_c.proofs.RefusalLemmas.{RefusesText-stripped}
use Rattle.cfgx_c.proofs.reading.read_condition.Goals as goal

pub returns-in-Err-clause-err : goal.returns-in-Err-clause-err
returns-in-Err-clause-err c =
    let (stripped, utf8) = c.in_ok-stripped.ensures.ok in
    rw c.text_refusal.ensures
    (RefusesText-stripped c.in-Err.failure stripped utf8 c.in-Err.ensures.answers)
