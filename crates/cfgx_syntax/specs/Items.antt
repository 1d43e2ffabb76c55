-- The tokens of a text with their places, as a relation on the whole text. A place is an index of a
-- byte.
-- Source: the lexical rules that `cfg-expr` documents at its `Lexer`, and `char::is_whitespace`.
use Rattle.std.specs.Prelude.{◌≡◌, ℕ, ◌+◌, ◌≤◌, ◌||◌, Bool, true, false, List, [], ◌∷◌, ◌++◌}
use Rattle.std.specs.Prelude.{Option, Some, None, codes, drop, encode_utf8, length, slice_range}
use Rattle.std.specs.Char.{IsScalar, is_not_whitespace, char_set_contains}
use Rattle.std.specs.{Str.NoCharPasses, List.AllByRecursion, List.AllPairs}
use Rattle.cfgx_syntax.specs.Cut.{CanBeCut}
use Rattle.cfgx_syntax.specs.{Error.Cause, Error.Fault, Error.unexpected, Terms.member}
use Rattle.cfgx_syntax.specs.Spans.{LiesIn}
use Rattle.cfgx_syntax.specs.Token.{Token, starts_word, Spells, IsWhole, HasNoQuote}

-- a token, and the bytes `start..end` of the text that spell it
pub record Item : Type 0 where
  pub token : Token
  pub start : ℕ
  pub end : ℕ

-- only white space, in the sense of `char::is_whitespace`
abbrev pub IsBlank : List ℕ → Type 0
IsBlank bytes = NoCharPasses is_not_whitespace bytes

-- a character that begins a token: `(`, `)`, `,`, `=`, a quote, or the first of a word
abbrev pub starts_token : ℕ → Bool
starts_token c = char_set_contains (codes "(),=\"") c || starts_word c

-- `rest` begins with a character that is no white space and begins no token
abbrev pub StartsNoToken : List ℕ → Type 0
StartsNoToken rest = (c : ℕ) × (more : List ℕ) × IsScalar c × (rest ≡ encode_utf8 c ++ more)
    × (is_not_whitespace c ≡ true) × (starts_token c ≡ false)

-- `rest` begins with a quote, and has no other quote
abbrev pub OpensNoValue : List ℕ → Type 0
OpensNoValue rest = (more : List ℕ) × (rest ≡ codes "\"" ++ more) × HasNoQuote more

-- the item stands in the text, with only white space between `from` and it
pub record Stands (text : List ℕ) (from : ℕ) (item : Item) : Type 0 where
  pub comes_after : from ≤ item.start
  pub gap : IsBlank (slice_range text from item.start)
  pub spelled : Spells (slice_range text item.start item.end) item.token
  pub ordered : item.start ≤ item.end
  pub inside : item.end ≤ length text
  pub whole : IsWhole item.token (drop item.end text)

-- how a text ends after its last token: with only white space, at a character with which no token
-- can start, or at a quote that is never closed
pub data Ending : Type 0 where
  blank : Ending
  no_token : ℕ → Ending
  unclosed_quotes : ℕ → Ending

-- no token can start at `place`, and only white space lies between `from` and it
pub record IsStuck (text : List ℕ) (from : ℕ) (place : ℕ) : Type 0 where
  pub comes_after : from ≤ place
  pub gap : IsBlank (slice_range text from place)
  pub stuck : StartsNoToken (drop place text)

-- a quote at `place` is never closed, and only white space lies between `from` and it
pub record IsUnclosed (text : List ℕ) (from : ℕ) (place : ℕ) : Type 0 where
  pub comes_after : from ≤ place
  pub gap : IsBlank (slice_range text from place)
  pub unclosed : OpensNoValue (drop place text)

abbrev pub EndsAs : List ℕ → ℕ → Ending → Type 0
EndsAs text from Ending.blank = IsBlank (drop from text)
EndsAs text from (Ending.no_token place) = IsStuck text from place
EndsAs text from (Ending.unclosed_quotes place) = IsUnclosed text from place

-- from `from` on, the text has the items in this order, and then the ending
abbrev pub ItemsFrom : List ℕ → ℕ → List Item → Ending → Type 0
ItemsFrom text from [] ending = EndsAs text from ending
ItemsFrom text from (item ∷ items) ending =
    Stands text from item × ItemsFrom text item.end items ending

-- the token list of a text
abbrev pub AreItems : List ℕ → List Item → Ending → Type 0
AreItems text items ending = ItemsFrom text 0 items ending

-- each item lies in the text, and behind all items before it
pub record LieInOrder (text : List ℕ) (items : List Item) : Type 0 where
  pub each : AllByRecursion (λ item. LiesIn text item.start item.end) items
  pub in_order : AllPairs (λ item later. item.end ≤ later.start) items

-- the text has exactly one token list and one ending, and each token can be cut out of it
pub record HasOneTokenList (text : List ℕ) : Type 0 where
  pub items : List Item
  pub ending : Ending
  pub are : AreItems text items ending
  pub cuts : AllByRecursion (λ i. CanBeCut text i.token i.start i.end) items
  pub only : (others : List Item) (end : Ending) → AreItems text others end
      → (others ≡ items) × (end ≡ ending)

-- the cause where no token can start: the terms with which a condition may begin were expected
abbrev pub expects_token : Cause
expects_token = unexpected member

-- the fault of an ending: none for white space, one byte where no token can start, or all bytes
-- from a quote that is never closed
abbrev pub lexical : List ℕ → Ending → Option Fault
lexical text Ending.blank = None
lexical text (Ending.no_token place) =
    Some (record { cause = expects_token; start = place; end = place + 1 })
lexical text (Ending.unclosed_quotes place) =
    Some (record { cause = Cause.unclosed_quotes; start = place; end = length text })
