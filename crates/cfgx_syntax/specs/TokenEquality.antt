-- The test of whether two tokens are the same. Each token has a code, which no other token has.
use Rattle.std.specs.Prelude.{ℕ, Bool, List, [], ◌∷◌, nat_eq}
use Rattle.std.specs.Cmp.{IsEquivalence, on_equiv}
use Rattle.std.specs.Cmp.Lexicographic.{pointwise, nat_list_eq_equiv}
use Rattle.std.specs.Ordering.{on}
use Rattle.cfgx_syntax.specs.Token.{Token}

-- the number of the case, and then the text that it has
abbrev pub token_code : Token → List ℕ
token_code (Token.key word) = 0 ∷ word
token_code (Token.value inside) = 1 ∷ inside
token_code Token.equals = 2 ∷ []
token_code Token.all = 3 ∷ []
token_code Token.any = 4 ∷ []
token_code Token.not = 5 ∷ []
token_code Token.open_paren = 6 ∷ []
token_code Token.close_paren = 7 ∷ []
token_code Token.comma = 8 ∷ []

-- whether two tokens are the same
abbrev pub token_eq : Token → Token → Bool
token_eq = on token_code (pointwise nat_eq)

-- the test is an equivalence, since that of codes is one
pub token_eq-equiv : IsEquivalence token_eq
token_eq-equiv = on_equiv token_code nat_list_eq_equiv
