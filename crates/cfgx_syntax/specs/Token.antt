-- Tokens, and which bytes spell each.
-- Source: the `ConfigurationPredicate` of the Rust Reference, with the words and punctuation that
-- the crate cfg-expr takes.
use Rattle.std.specs.Prelude.{◌≡◌, ◌≢◌, ℕ, ◌||◌, Bool, true, false, List, [], ◌∷◌, ◌++◌, codes}
use Rattle.std.specs.Prelude.{IsTrue}
use Rattle.std.specs.Char.{is_ascii_alphabetic, is_ascii_alphanumeric, char_set_contains}
use Rattle.std.specs.List.{list_all, list_any}

pub data Token : Type 0 where
  key : List ℕ → Token
  value : List ℕ → Token
  equals : Token
  all : Token
  any : Token
  not : Token
  open_paren : Token
  close_paren : Token
  comma : Token

-- an ASCII letter or `_`
abbrev pub starts_word : ℕ → Bool
starts_word byte = is_ascii_alphabetic byte || char_set_contains (codes "_") byte

-- an ASCII letter, an ASCII digit or `_`
abbrev pub continues_word : ℕ → Bool
continues_word byte = is_ascii_alphanumeric byte || char_set_contains (codes "_") byte

-- a letter or `_`, and then letters, digits and `_`
abbrev pub IsWord : List ℕ → Type 0
IsWord [] = IsTrue false
IsWord (first ∷ others) = IsTrue (starts_word first) × IsTrue (list_all continues_word others)

-- a word that names no function
pub record IsKey (word : List ℕ) : Type 0 where
  pub spelled : IsWord word
  pub not_all : word ≢ codes "all"
  pub not_any : word ≢ codes "any"
  pub not_not : word ≢ codes "not"

abbrev pub is_quote : ℕ → Bool
is_quote byte = char_set_contains (codes "\"") byte

-- no byte is a quote
abbrev pub HasNoQuote : List ℕ → Type 0
HasNoQuote bytes = list_any is_quote bytes ≡ false

-- the bytes between two quotes
abbrev pub in_quotes : List ℕ → List ℕ
in_quotes bytes = codes "\"" ++ bytes ++ codes "\""

-- The bytes spell the token. A value has no escapes: it ends at the next quote.
abbrev pub Spells : List ℕ → Token → Type 0
Spells bytes (Token.key word) = (bytes ≡ word) × IsKey word
Spells bytes (Token.value inside) = (bytes ≡ in_quotes inside) × HasNoQuote inside
Spells bytes Token.equals = bytes ≡ codes "="
Spells bytes Token.all = bytes ≡ codes "all"
Spells bytes Token.any = bytes ≡ codes "any"
Spells bytes Token.not = bytes ≡ codes "not"
Spells bytes Token.open_paren = bytes ≡ codes "("
Spells bytes Token.close_paren = bytes ≡ codes ")"
Spells bytes Token.comma = bytes ≡ codes ","

-- `rest` does not continue a word
abbrev pub EndsWord : List ℕ → Type 0
EndsWord [] = IsTrue true
EndsWord (byte ∷ _) = continues_word byte ≡ false

-- the token is whole if `rest` follows it: a word is as long as it can be
abbrev pub IsWhole : Token → List ℕ → Type 0
IsWhole (Token.key _) rest = EndsWord rest
IsWhole Token.all rest = EndsWord rest
IsWhole Token.any rest = EndsWord rest
IsWhole Token.not rest = EndsWord rest
IsWhole _ rest = IsTrue true
