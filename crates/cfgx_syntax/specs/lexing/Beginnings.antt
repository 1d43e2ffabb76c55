-- What the rest of a text begins with: a token or a fault.
use Rattle.std.specs.Prelude.{◌≡◌, ℕ, ◌<◌, ◌≤◌, ◌⊎◌, false, List, length, take, drop, slice_index}
use Rattle.std.specs.Prelude.{Result, Ok, Err}
use Rattle.cfgx_syntax.specs.{declared.error.Reason.Reason, declared.lexer.Token.Token}
use Rattle.cfgx_syntax.specs.{Cut.CanBeCut, Error.Cause, Error.cause_of, Lexer.token_of}
use Rattle.cfgx_syntax.specs.Items.{OpensNoValue, expects_token, starts_token}
use Rattle.cfgx_syntax.specs.{Token.Spells, Token.IsWhole}
use Rattle.cfgx_syntax.specs.Token as spelled

-- `rest` begins with `token`, which takes `len` bytes
pub record BeginsWith (rest : List ℕ) (token : spelled.Token) (len : ℕ) : Type 0 where
  pub spelled : Spells (take len rest) token
  pub some : 0 < len
  pub inside : len ≤ length rest
  pub whole : IsWhole token (drop len rest)
  pub cut : CanBeCut rest token 0 len

-- the first byte of `rest` begins no token, and is at fault alone
pub record BeginsNone (rest : List ℕ) (cause : Cause) (len : ℕ) : Type 0 where
  pub none : starts_token (slice_index rest 0) ≡ false
  pub why : cause ≡ expects_token
  pub one : len ≡ 1

-- the first byte of `rest` is a quote that is never closed, and all bytes are at fault
pub record BeginsUnclosed (rest : List ℕ) (cause : Cause) (len : ℕ) : Type 0 where
  pub unclosed : OpensNoValue rest
  pub why : cause ≡ Cause.unclosed_quotes
  pub all : len ≡ length rest

-- `rest` begins with a token and its length, or with a cause and the number of bytes at fault
abbrev pub BeginsAs : List ℕ → Result (Token × ℕ) (Reason × ℕ) → Type 0
BeginsAs rest (Ok found) = BeginsWith rest (token_of found.0) found.1
BeginsAs rest (Err wrong) =
    BeginsNone rest (cause_of wrong.0) wrong.1 ⊎ BeginsUnclosed rest (cause_of wrong.0) wrong.1
