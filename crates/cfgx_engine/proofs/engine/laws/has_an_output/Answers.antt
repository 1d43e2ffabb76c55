use Rattle.std.{proofs.Common.◌+◌, specs.Str.IsUtf8}
use Rattle.std.proofs.lemmas.Str.{IsCharBoundary-after_ascii, IsCharBoundary-before_ascii}
use Rattle.std.proofs.lemmas.Str.{IsUtf8-drop, IsUtf8-from_is_utf8, IsUtf8-take}
use Rattle.cfgx_syntax.proofs.Finding.{HasOneTokenList-of}
use Rattle.cfgx_grammar.proofs.Answering.{reads_one_way}
use Rattle.cfgx_engine.proofs.OneOutput.{Prints-some}
use Rattle.cfgx_engine.proofs.engine.laws.has_an_output.Goals as goal

pub returns : goal.returns
returns c = Prints-some IsUtf8 IsUtf8-from_is_utf8 (λ text i utf8 below low. (
  IsUtf8-take text i utf8 (IsCharBoundary-before_ascii text i below low),
  IsUtf8-drop text (i + 1) utf8 (IsCharBoundary-after_ascii text i utf8 below low),
)) (λ text utf8. reads_one_way text (HasOneTokenList-of text utf8))
