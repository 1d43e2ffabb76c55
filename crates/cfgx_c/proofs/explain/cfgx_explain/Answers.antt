-- The fault of the text.
use Rattle.cfgx_c.proofs.RefusalLemmas.{RefusesText-stripped}
use Rattle.cfgx_c.proofs.explain.cfgx_explain.Goals as goal

pub returns-clause-read : goal.returns-clause-read
returns-clause-read c =
    let (stripped, utf8) = c.in-Ok.ensures.ok in
    let refuses = RefusesText-stripped c.in-Err-Parse.field-0 stripped utf8
    c.in-Err-Parse.ensures.answers in
    rw c.of.ensures (rw c.in-Err-Parse.field-0-is at refuses.tells)
