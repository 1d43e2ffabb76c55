use Rattle.std.proofs.{Common.arith, lemmas.Result.err_from_is_err_and}
use Rattle.std.proofs.lemmas.Fmt.{decimal_digit, decimal_step}
use Rattle.cfg_expr.proofs.Parts.{front_of_first, writes_second}
use Rattle.cfg_expr.proofs.expr.spelling.+write_decimal.Goals as goal

-- one digit
pub returns-then-number-lt10 : goal.returns-then-number-lt10
returns-then-number-lt10 g t c =
    rw (decimal_digit c.args.number c.if-number-lt10.true) c.write_bytes.ensures

-- the digits in front were not written whole
pub returns-in_err-write_decimal : goal.returns-in_err-write_decimal
returns-in_err-write_decimal g t c =
    let p = err_from_is_err_and c.from_residual.result c.from_residual.ensures.1 in
    let step = decimal_step c.args.number (omega (arith, c.if-number-lt10.false))
    (omega (arith, c.ranges.number.fits)) in
    rw (p.1, step) (front_of_first _ c.in_err-write_decimal.ensures)

-- the last one was, or not
pub returns : goal.returns
returns g t c =
    let step = decimal_step c.args.number (omega (arith, c.if-number-lt10.false))
    (omega (arith, c.ranges.number.fits)) in
    rw step (writes_second _ _ _ _ _ _ c.in_ok-write_decimal.ensures c.write_bytes-2.ensures)
