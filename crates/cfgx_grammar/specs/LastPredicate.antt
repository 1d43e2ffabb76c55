-- The predicate at the end of tokens.
-- Source: the Rust Reference's conditional compilation, where a predicate is a key, or a key, `=`
-- and a value in quotes.
use Rattle.std.specs.Prelude.{ℕ, ◌+◌, ◌-◌, List, ◌∷◌, Option, Some, None, option_map, unwrap_or}
use Rattle.std.specs.Prelude.{map}
use Rattle.cfgx_syntax.specs.{Token.Token, Items.Item}
use Rattle.cfgx_grammar.specs.Classification.{Class, FaultyPart, class}

-- a key, or a value without its quotes, with its span
pub record LocatedText : Type 0 where
  pub text : List ℕ
  pub start : ℕ
  pub end : ℕ

abbrev pub located_text : List ℕ → ℕ → ℕ → LocatedText
located_text text start end = record { text = text; start = start; end = end }

-- a predicate as it stands in the text: its key, and its value if it has one
pub record KeyAndValue : Type 0 where
  pub key : LocatedText
  pub value : Option LocatedText

-- the predicate with this value
abbrev pub with_value : LocatedText → KeyAndValue → KeyAndValue
with_value value p = record p { value = Some value }

-- the part of a predicate that is at fault; `class` names the value only if there is one
abbrev pub part_of : KeyAndValue → FaultyPart → LocatedText
part_of p FaultyPart.in_key = p.key
part_of p FaultyPart.in_value = unwrap_or p.value p.key

-- what the key and the value say
abbrev pub class_of : KeyAndValue → Class
class_of p = class p.key.text (option_map (λ v. v.text) p.value)

-- the predicate at the end of tokens: a key, or a key, `=` and a value; the list of the tokens is
-- reversed
abbrev pub predicate_of : List Token → List Item → Option KeyAndValue
predicate_of (Token.key text ∷ _) (item ∷ _) =
    Some (record { key = located_text text item.start item.end; value = None })
predicate_of (Token.value inside ∷ Token.equals ∷ Token.key text ∷ _) (value ∷ _ ∷ key ∷ _) =
    Some (record {
      key = located_text text key.start key.end;
      value = Some (located_text inside (value.start + 1) (value.end - 1));
    })
predicate_of _ _ = None

abbrev pub predicate_last : List Item → Option KeyAndValue
predicate_last items = predicate_of (map (λ item. item.token) items) items
