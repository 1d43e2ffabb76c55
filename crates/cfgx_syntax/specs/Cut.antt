-- Where a text can be cut: at `str::is_char_boundary` of Rust.
use Rattle.std.specs.Prelude.{ℕ, ◌+◌, ◌-◌, ◌≤◌, List, length}
use Rattle.std.specs.Str.{IsCharBoundary}
use Rattle.cfgx_syntax.specs.Token.{Token}

-- the bytes `start..end` can be cut out of the text
pub record IsCut (text : List ℕ) (start end : ℕ) : Type 0 where
  pub ordered : start ≤ end
  pub inside : end ≤ length text
  pub at_start : IsCharBoundary text start
  pub at_end : IsCharBoundary text end

-- the text between the quotes of a value can be cut out of the text
abbrev pub IsValueCut : List ℕ → Token → ℕ → ℕ → Type 0
IsValueCut text (Token.value _) start end = IsCut text (start + 1) (end - 1)
IsValueCut text _ start end = Unit {0}

-- the token at `start..end` can be cut out of the text, and so can the text of a value
pub record CanBeCut (text : List ℕ) (token : Token) (start end : ℕ) : Type 0 where
  pub spelling : IsCut text start end
  pub value : IsValueCut text token start end
