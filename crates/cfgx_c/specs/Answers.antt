-- What `cfgx_answers` writes.
-- Source: include/cfgx.h.
use Rattle.std.specs.Prelude.{◌==◌, ℕ, Bool, List, Option, map, if◌then◌else◌}
use Rattle.std.specs.List.{AllZip}
use Rattle.cfgx_syntax.specs.Stripping.{strip}
use Rattle.cfgx_grammar.specs.Answer.{HasOneTree}
use Rattle.cfgx_grammar.specs.Tree.{asked}
use Rattle.cfgx_engine.specs.Facts.{IsAnswer, texts_of}
use Rattle.cfgx_engine.specs.declared.resolve.facts.Otherwise.{Otherwise}
use Rattle.cfgx_engine.specs.declared.resolve.facts.Otherwise.TheVariants as otherwise
use Rattle.cfgx_c.specs.Buffer.{Fills}
use Rattle.cfgx_c.specs.Value.{byte_of_value}

-- what a byte says of the predicates that no fact names
abbrev pub otherwise_of : ℕ → Otherwise
otherwise_of byte = if byte == 0 then otherwise.False else otherwise.Unknown

-- the answers of the facts to the predicates of the text, in the order in which they are asked
pub record AnswersOfFacts (text : List ℕ) (facts : List (List ℕ)) (otherwise : Otherwise)
    (answers : List (Option Bool)) : Type 0 where
  pub one : HasOneTree (strip text)
  pub answered : AllZip (IsAnswer (texts_of facts) otherwise) (asked one.tree) answers

-- the buffer was filled with the bytes of the answers
abbrev pub FillsAnswers : List ℕ → List (List ℕ) → ℕ → List ℕ → List ℕ → ℕ → Type 0
FillsAnswers text facts otherwise old new needed = (answers : List (Option Bool))
    × AnswersOfFacts text facts (otherwise_of otherwise) answers
    × Fills (map byte_of_value answers) old new needed
