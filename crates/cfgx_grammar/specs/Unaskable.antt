-- Texts that no condition can ask, since their key is at fault.
use Rattle.std.specs.Prelude.{◌≡◌, ℕ, List, Option, map}
use Rattle.cfgx_syntax.specs.{Error.Cause, Items.Item, Items.Ending, Items.AreItems}
use Rattle.cfgx_grammar.specs.{Grammar.leaf_tokens, Classification.Class, Classification.FaultyPart}
use Rattle.cfgx_grammar.specs.Classification.{class}

-- the text is a key, or a key, `=` and a value
pub record IsKeyAndValue (text : List ℕ) : Type 0 where
  pub key : List ℕ
  pub value : Option (List ℕ)
  pub items : List Item
  pub are_items : AreItems text items Ending.blank
  pub spelled : map (λ item. item.token) items ≡ leaf_tokens key value

-- No condition can ask the text: it is a key, or a key, `=` and a value, and the key is at fault.
-- The key begins with `target_` and is not known, or it lacks the value that it needs.
abbrev pub IsUnaskable : List ℕ → Type 0
IsUnaskable text = (leaf : IsKeyAndValue text) × (cause : Cause)
    × (class leaf.key leaf.value ≡ Class.faulty cause FaultyPart.in_key)
