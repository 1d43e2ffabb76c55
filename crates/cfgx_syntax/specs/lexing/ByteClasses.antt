-- Classes of bytes, and runs of them.
use Rattle.std.specs.Prelude.{◌≡◌, ◌≢◌, ℕ, ◌<◌, ◌&&◌, ◌||◌, Bool, true, false, not}
use Rattle.std.specs.Prelude.{List, length, codes, slice_index, Option, Some, None}
use Rattle.std.specs.Option.{MatchOption}
use Rattle.std.specs.Char.{char_set_contains, is_ascii, is_ascii_digit, is_whitespace}
use Rattle.cfgx_syntax.specs.{declared.lexer.bytes.Class.Class, declared.lexer.bytes.Run.Run}
use Rattle.cfgx_syntax.specs.declared.lexer.bytes.Class.TheVariants as class
use Rattle.cfgx_syntax.specs.declared.lexer.bytes.Run.TheVariants as run
use Rattle.cfgx_syntax.specs.{Items.starts_token, Token.{continues_word, is_quote, starts_word}}

-- whether `byte` is ASCII white space
abbrev pub is_blank : ℕ → Bool
is_blank byte = is_ascii byte && is_whitespace byte

-- whether `byte` is of the class; `Other` is for a byte of no other class
abbrev pub is_of : Class → ℕ → Bool
is_of class.Letter byte = starts_word byte
is_of class.Digit byte = is_ascii_digit byte
is_of class.Equals byte = char_set_contains (codes "=") byte
is_of class.OpenParen byte = char_set_contains (codes "(") byte
is_of class.CloseParen byte = char_set_contains (codes ")") byte
is_of class.Comma byte = char_set_contains (codes ",") byte
is_of class.Quote byte = is_quote byte
is_of class.Blank byte = is_blank byte
is_of class.Other byte = not (starts_token byte || continues_word byte || is_blank byte)

-- whether a white space character may begin with a byte of the class
abbrev pub may_be_white : Class → Bool
may_be_white class.Blank = true
may_be_white class.Other = true
may_be_white _ = false

-- `text` begins with a byte of the class, or is empty and has no class
abbrev pub BeginsWithClass : List ℕ → Option Class → Type 0
BeginsWithClass text None = length text ≡ 0
BeginsWithClass text (Some first) = (0 < length text) × (is_of first (slice_index text 0) ≡ true)

-- whether `byte` may stand in the run
abbrev pub in_run : Run → ℕ → Bool
in_run run.Blanks = is_blank
in_run run.Word = continues_word
in_run run.Value = λ byte. not (is_quote byte)

-- `found` is the index of the first quote, or `None` if there is no quote
abbrev pub FindsQuote : List ℕ → Option ℕ → Type 0
FindsQuote bytes found = MatchOption found
    ((i : ℕ) → i < length bytes → slice_index bytes i ≢ slice_index (codes "\"") 0)
    (λ place. (place < length bytes) × (slice_index bytes place ≡ slice_index (codes "\"") 0)
    × ((i : ℕ) → i < place → slice_index bytes i ≢ slice_index (codes "\"") 0))
