-- After ASCII white space comes more white space only if the next character is beyond ASCII.
use Rattle.std.proofs.{Common.arith, Common.rules, lemmas.Grind.common_steps}
use Rattle.cfgx_syntax.proofs.Blanks.{blank-ascii, trim_after, trim_blanks}
use Rattle.cfgx_syntax.proofs.WordLemmas.{IsCharBoundary-after}
use Rattle.cfgx_syntax.proofs.lexer.after_blanks.Goals as goal

pub range_from-rest-requires : goal.range_from-rest-requires
range_from-rest-requires c = grind (arith, common_steps, IsCharBoundary-after, blank-ascii)

pub returns-in-Some : goal.returns-in-Some
returns-in-Some c =
    trim_after _ _ _ _ c.len.ensures.len c.as_bytes.ensures.value
    c.range_from-rest.ensures.value _ c.trim_start.ensures.value

pub returns-in_default : goal.returns-in_default
returns-in_default c = search (rules, trim_blanks)
