-- The state of a `Lexer`.
use Rattle.std.specs.Prelude.{ℕ, List, length}

-- the stripped text, and the place after the last token, which is the end of the text after a
-- failure and after `None`
pub record LexerState : Type 0 where
  pub text : List ℕ
  pub place : ℕ

-- the state before the first call
abbrev pub starting : List ℕ → LexerState
starting text = record { text = text; place = 0 }

-- the state after the last item
abbrev pub at_end : LexerState → LexerState
at_end state = record state { place = length state.text }
