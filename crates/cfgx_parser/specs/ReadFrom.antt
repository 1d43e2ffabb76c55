-- The tokens of a text from which predicates were read.
use Rattle.std.specs.Prelude.{◌≡◌, ℕ, ◌+◌, ◌-◌, List, [], ◌∷◌, ◌++◌, Some, None}
use Rattle.cfgx_syntax.specs.Items.{AreItems, Ending, Item}
use Rattle.cfgx_syntax.specs.Token.{Token}
use Rattle.cfgx_grammar.specs.Classification.{class, predicate}
use Rattle.cfgx_grammar.specs.Question.{Question}
use Rattle.cfgx_parser.specs.Located.{predicate_located}
use Rattle.cfgx_parser.specs.declared.located.LocatedPredicate.{LocatedPredicate}
use Rattle.cfgx_parser.specs.declared.located.Span.{Span}

-- the span of a word, and the span between the quotes of a value
abbrev pub word_span : Item → Span
word_span item = record { start = item.start; end = item.end }

abbrev pub quoted_span : Item → Span
quoted_span item = record { start = item.start + 1; end = item.end - 1 }

-- The predicate was read from these tokens, and has their spans: from a key, or from a key, the
-- token behind it and a value.
pub data IsReadFrom : List Item → LocatedPredicate → Type 0 where
  key : (x : Item) (name : List ℕ) (question : Question) → x.token ≡ Token.key name
      → class name None ≡ predicate question
      → IsReadFrom (x ∷ []) (predicate_located (word_span x) None question)
  value : (x y z : Item) (name text : List ℕ) (question : Question) → x.token ≡ Token.key name
      → z.token ≡ Token.value text → class name (Some text) ≡ predicate question
      → IsReadFrom (x ∷ y ∷ z ∷ [])
      (predicate_located (word_span x) (Some (quoted_span z)) question)

-- the predicates were read from the tokens, one behind another
abbrev pub AreReadFrom : List Item → List LocatedPredicate → Type 0
AreReadFrom items [] = Unit {0}
AreReadFrom items (one ∷ others) = (before : List Item) × (own : List Item)
    × (after : List Item) × (items ≡ before ++ (own ++ after)) × IsReadFrom own one
    × AreReadFrom after others

-- the predicates were read from the tokens of the text, one behind another
pub record AreRead (text : List ℕ) (predicates : List LocatedPredicate) : Type 0 where
  pub items : List Item
  pub are_items : AreItems text items Ending.blank
  pub read : AreReadFrom items predicates
