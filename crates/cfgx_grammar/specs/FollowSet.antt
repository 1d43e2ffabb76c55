-- Which token may follow which, and what a fault says was expected, as in the crate cfg-expr.
use Rattle.std.specs.Prelude.{ℕ, Bool, true, false, List, [], ◌∷◌, Option, Some, None}
use Rattle.std.specs.List.{list_any}
use Rattle.cfgx_syntax.specs.Token.{Token}
use Rattle.cfgx_syntax.specs.Terms as terms

-- the kinds of tokens; a key and the name of a function are of one kind, and begin a member
pub data TokenKind : Type 0 where
  name : TokenKind
  equals : TokenKind
  value : TokenKind
  opening : TokenKind
  closing : TokenKind
  comma : TokenKind

abbrev pub token_kind : Token → TokenKind
token_kind (Token.value _) = TokenKind.value
token_kind Token.equals = TokenKind.equals
token_kind Token.open_paren = TokenKind.opening
token_kind Token.close_paren = TokenKind.closing
token_kind Token.comma = TokenKind.comma
token_kind _ = TokenKind.name

abbrev pub is_kind : TokenKind → TokenKind → Bool
is_kind TokenKind.name TokenKind.name = true
is_kind TokenKind.equals TokenKind.equals = true
is_kind TokenKind.value TokenKind.value = true
is_kind TokenKind.opening TokenKind.opening = true
is_kind TokenKind.closing TokenKind.closing = true
is_kind TokenKind.comma TokenKind.comma = true
is_kind _ _ = false

-- the kinds that may follow the last token, or stand at the start; the last case is the name of a
-- function
abbrev pub followers : Option Token → List TokenKind
followers None = TokenKind.name ∷ []
followers (Some Token.open_paren) = TokenKind.name ∷ TokenKind.closing ∷ []
followers (Some Token.comma) = TokenKind.name ∷ TokenKind.closing ∷ TokenKind.comma ∷ []
followers (Some (Token.key _)) = TokenKind.equals ∷ TokenKind.closing ∷ TokenKind.comma ∷ []
followers (Some Token.equals) = TokenKind.value ∷ []
followers (Some (Token.value _)) = TokenKind.comma ∷ TokenKind.closing ∷ []
followers (Some Token.close_paren) = TokenKind.closing ∷ TokenKind.comma ∷ []
followers _ = TokenKind.opening ∷ []

abbrev pub takes : Option Token → TokenKind → Bool
takes last kind = list_any (is_kind kind) (followers last)

-- whether the token may follow the last one, or stand at the start
abbrev pub next : Option Token → Token → Bool
next last token = takes last (token_kind token)

-- the terms that a fault there says were expected; the last case is the name of a function
abbrev pub expected : Option Token → List (List ℕ)
expected None = terms.member
expected (Some Token.open_paren) = terms.after_paren
expected (Some Token.comma) = terms.after_comma
expected (Some (Token.key _)) = terms.after_key
expected (Some Token.equals) = terms.after_equals
expected (Some (Token.value _)) = terms.after_value
expected (Some Token.close_paren) = terms.after_closing
expected _ = terms.after_function
