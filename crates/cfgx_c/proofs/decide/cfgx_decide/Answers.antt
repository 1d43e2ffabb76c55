-- The text that is read is the one that was passed, and its value is exact.
use Rattle.std.proofs.Common.{◌∙◌, arith, sym}
use Rattle.std.proofs.lemmas.Grind.{common_steps}
use Rattle.cfgx_c.proofs.DecideLemmas.{DecidesOver-known, DecidesOver-unknown}
use Rattle.cfgx_c.proofs.decide.cfgx_decide.Goals as goal

pub returns-in-Ok-Some-clause-done : goal.returns-in-Ok-Some-clause-done
returns-in-Ok-Some-clause-done c is =
    let found = rw c.in-Ok-Some.field-0-is at c.in-Ok-Some.ensures in
    rw (c.byte_of_value-in-Ok-Some.ensures, ← c.in-Ok.ensures.ok.0)
    (DecidesOver-known c.in-Ok.condition c.args.answers.now c.in-Ok.ensures.counted
    c.in-Ok-Some.known c.args.fillings.now found)

pub returns-in-Ok-fill_fillings-clause-done : goal.returns-in-Ok-fill_fillings-clause-done
returns-in-Ok-fill_fillings-clause-done c is =
    let found = rw c.in-Ok-None.field-0-is at c.in-Ok-None.ensures in
    rw (c.byte_of_value.ensures, ← c.in-Ok.ensures.ok.0)
    (DecidesOver-unknown c.in-Ok.condition c.args.answers.now c.in-Ok.ensures.counted
    c.args.fillings.now c.fill_fillings.new.buffer c.in-Ok-fill_fillings.count found
    c.in-Ok-fill_fillings.ensures.ok)

-- no text that cannot be read has this status
pub returns-in-Err-clause-done : goal.returns-in-Err-clause-done
returns-in-Err-clause-done c is = absurd (
    let status = sym c.report.ensures.status ∙ is in
    let fails = c.in-Err.ensures.err.fails in grind (arith, common_steps))

pub returns-in-Err-clause-miscounted : goal.returns-in-Err-clause-miscounted
returns-in-Err-clause-miscounted c is =
    c.in-Err.ensures.other_count (sym c.report.ensures.status ∙ is)
