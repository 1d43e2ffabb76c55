-- The first byte that is no UTF-8.
use Rattle.std.proofs.Common.{refl}
use Rattle.cfgx_c.proofs.RefusalLemmas.{RefusesText-bytes}
use Rattle.cfgx_c.proofs.reading.read_text.Goals as goal

pub returns-in-Err-clause-err : goal.returns-in-Err-clause-err
returns-in-Err-clause-err c =
    let valid = rw (← c.valid_up_to.ensures) at c.in-Err.ensures.cases.1 in
    rw c.at_byte.ensures (RefusesText-bytes c.args.text.now _ refl refl (_, valid, refl))
