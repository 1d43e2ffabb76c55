-- Each wrong item or ending has a field that is false.
use Rattle.std.proofs.{Common.{lit<, arith}, lemmas.Str.{char_from_byte, NoCharPasses-byte}}
use Rattle.std.specs.{Prelude.codes, Char.is_not_whitespace}
use Rattle.cfgx_vectors.proofs.rules.definitions.excluded.Goals as goal

pub returns : goal.returns
returns c = record {
  short = λ s. grind arith;
  function = λ s. grind arith;
  unclosed = λ s. grind arith;
  past = λ s. grind arith;
  bare = λ s. grind arith;
  token = λ e.
      grind (arith, char_from_byte (codes "=") e.stuck.1 e.stuck.0 e.stuck.3 (lit< tt) (lit< tt));
  closed = λ e. grind arith;
  not_blank = λ e.
      grind (arith, NoCharPasses-byte is_not_whitespace (codes " a") 1 e (lit< tt) (lit< tt));
}
