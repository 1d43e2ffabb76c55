-- What a text reads as without its outer `cfg( )`, and what a list of items gives.
-- Source of the rules: docs/RULES.md.
use Rattle.std.specs.Prelude.{◌≡◌, ℕ, List, ◌∷◌, ◌++◌, Result, Ok, Err}
use Rattle.std.specs.List.{AllZip}
use Rattle.cfgx_syntax.specs.Stripping.{strip}
use Rattle.cfgx_syntax.specs.Error.{TextFault, Fault, fault_in}
use Rattle.cfgx_grammar.specs.Question.{Question}
use Rattle.cfgx_grammar.specs.Tree.{Tree}
use Rattle.cfgx_grammar.specs.Answer.{ReadsAs}

-- the text, once stripped, reads as this tree, or as this fault, which holds the stripped text
abbrev pub ParsesAs : List ℕ → Result (Tree Question) TextFault → Type 0
ParsesAs text (Ok tree) = ReadsAs (strip text) (Ok tree)
ParsesAs text (Err fault) = (found : Fault) × ReadsAs (strip text) (Err found)
    × (fault ≡ fault_in (strip text) found)

-- an item gives this error, and each item before it a value
pub record FirstFails {X T E : Type 0} (Gives : X → Result T E → Type 0) (items : List X)
    (error : E) : Type 0 where
  pub before : List X
  pub values : List T
  pub item : X
  pub after : List X
  pub whole : items ≡ before ++ item ∷ after
  pub give : AllZip (λ one value. Gives one (Ok value)) before values
  pub fails : Gives item (Err error)

-- each item gives its value, in order; or the first item that gives no value gives this error
abbrev pub GivesAll : {X T E : Type 0} → (X → Result T E → Type 0) → List X → Result (List T) E
    → Type 0
GivesAll Gives items (Ok values) = AllZip (λ item value. Gives item (Ok value)) items values
GivesAll Gives items (Err error) = FirstFails Gives items error
