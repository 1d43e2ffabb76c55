-- A token is one byte, or a word that is as long as it can be.
use Rattle.std.proofs.Common.{◌≡◌, get_or, arith, rules}
use Rattle.std.proofs.{lemmas.Grind.common_steps, Math.Nat.sub-zero}
use Rattle.cfgx_syntax.proofs.WordLemmas.{BeginsWith-byte, BeginsWith-word, word_prefix}
use Rattle.cfgx_syntax.proofs.WordLemmas.{IsCharBoundary-after, continues_word-ascii}
use Rattle.cfgx_syntax.proofs.lexer.first_token.Goals as goal

pub returns-in-OpenParen : goal.returns-in-OpenParen
returns-in-OpenParen c =
    let first : get_or c.args.text.now 0 0 ≡ 40 = grind arith in search (rules, BeginsWith-byte)

pub returns-in-CloseParen : goal.returns-in-CloseParen
returns-in-CloseParen c =
    let first : get_or c.args.text.now 0 0 ≡ 41 = grind arith in search (rules, BeginsWith-byte)

pub returns-in-Comma : goal.returns-in-Comma
returns-in-Comma c =
    let first : get_or c.args.text.now 0 0 ≡ 44 = grind arith in search (rules, BeginsWith-byte)

pub returns-in-Equals : goal.returns-in-Equals
returns-in-Equals c =
    let first : get_or c.args.text.now 0 0 ≡ 61 = grind arith in search (rules, BeginsWith-byte)

pub range-requires-clause-end_boundary : goal.range-requires-clause-end_boundary
range-requires-clause-end_boundary c =
    grind (arith, common_steps, IsCharBoundary-after, continues_word-ascii)

pub word_token-requires : goal.word_token-requires
word_token-requires c = grind (arith, common_steps, sub-zero, word_prefix)

pub returns-in-Letter : goal.returns-in-Letter
returns-in-Letter c = grind (arith, common_steps, BeginsWith-word, sub-zero)
