-- Predicates that can stand in a text, and the text of one predicate alone.
use Rattle.std.specs.Prelude.{◌≡◌, ℕ, List, Option, Some, None, Ok}
use Rattle.cfgx_syntax.specs.{Stripping.strip, Token.IsKey, Token.HasNoQuote}
use Rattle.cfgx_grammar.specs.{Question.Question, Tree.Tree, Answer.ReadsAs}
use Rattle.cfgx_grammar.specs.Classification.{class, predicate}

-- a value, if there is one, can stand between quotes
abbrev pub CanBeQuoted : Option (List ℕ) → Type 0
CanBeQuoted None = Unit {0}
CanBeQuoted (Some value) = HasNoQuote value

-- some key, perhaps with a value, says the predicate
pub record IsWellFormed (question : Question) : Type 0 where
  pub key : List ℕ
  pub value : Option (List ℕ)
  pub is_key : IsKey key
  pub can_be_quoted : CanBeQuoted value
  pub says : class key value ≡ predicate question

-- the text is this predicate and nothing else, and nothing is stripped from it
pub record IsAlone (text : List ℕ) (question : Question) : Type 0 where
  pub stripped : strip text ≡ text
  pub reads : ReadsAs text (Ok (Tree.leaf question))
