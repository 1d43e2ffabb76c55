-- What tells that no condition can ask a text: its tokens are few, and its key is at fault.
use Rattle.std.specs.Prelude.{◌≡◌, ℕ, ◌<◌, List, Option, Some, None, length, map, Result, Ok, Err}
use Rattle.cfgx_syntax.specs.{Error.Cause, Lexer.token_of, LexerState.LexerState}
use Rattle.cfgx_syntax.specs.Items.{Item, Ending, ItemsFrom}
use Rattle.cfgx_syntax.specs.Token as spelled
use Rattle.cfgx_syntax.specs.declared.lexer.Token.{Token}
use Rattle.std.specs.declared.vec.Vec.{Vec}
use Rattle.cfgx_syntax.specs.declared.error.Failure.{Failure}
use Rattle.cfgx_syntax.specs.declared.error.Failure.TheVariants as failure
use Rattle.cfgx_grammar.specs.{Grammar.leaf_tokens, Classification.Class, Classification.FaultyPart}
use Rattle.cfgx_grammar.specs.Classification.{class}

abbrev pub tokens_of : List Item → List spelled.Token
tokens_of items = map (λ item. item.token) items

-- more than three tokens are left, or a lexical fault follows
abbrev pub AreMany : LexerState → Type 0
AreMany lexer = (items : List Item) → ItemsFrom lexer.text lexer.place items Ending.blank
    → 3 < length items

-- the tokens that are left, if these are three at most and no lexical fault follows
abbrev pub YieldsFew : {A : Type 0} → LexerState → Result (Option (Vec Token A)) (Failure A)
    → Type 0
YieldsFew lexer (Ok (Some few)) = (items : List Item) (ending : Ending)
    → ItemsFrom lexer.text lexer.place items ending
    → (ending ≡ Ending.blank) × (tokens_of items ≡ map token_of few.items)
YieldsFew lexer (Ok None) = AreMany lexer
YieldsFew lexer (Err (failure.Parse error)) = AreMany lexer
YieldsFew lexer (Err (failure.Memory error)) = Unit {0}

-- the key is at fault
abbrev pub IsFaultyKey : List ℕ → Option (List ℕ) → Type 0
IsFaultyKey key value = (cause : Cause) × (class key value ≡ Class.faulty cause FaultyPart.in_key)

-- the tokens are a key that is at fault, or such a key, `=` and a value
abbrev pub HasFaultyKey : List spelled.Token → Type 0
HasFaultyKey tokens = (key : List ℕ) × (value : Option (List ℕ)) × (tokens ≡ leaf_tokens key value)
    × IsFaultyKey key value
