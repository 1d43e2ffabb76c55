-- The quote is among the bytes that are tested one by one, or `find` finds it.
use Rattle.std.proofs.{Common.{ap, arith, length, length-take}, lemmas.Str.Pattern.find_char}
use Rattle.cfgx_syntax.proofs.Values.{FindsQuote-prefix}
use Rattle.cfgx_syntax.proofs.lexer.bytes.quote_in.Goals as goal

pub returns-then-len-prefix : goal.returns-then-len-prefix
returns-then-len-prefix c =
    let text = c.as_bytes-bytes.ensures.value in
    let len = rw text at c.len-len.ensures.len in
    let short = rw (text, length-take) at c.if-len-prefix.true in
    FindsQuote-prefix c.args.text.now c.min.result c.len-len.result
    (omega (arith, c.min.ensures, ap length text)) len (omega (arith, short))

pub returns : goal.returns
returns c = find_char 34 c.args.text.now c.find.result c.find.ensures.cases (omega arith)
