-- The tokens that a lexer yields.
use Rattle.std.specs.Prelude.{◌≡◌, ℕ, List, Option, length, map, option_map}
use Rattle.std.specs.declared.alloc.Global.{Global}
use Rattle.cfgx_syntax.specs.Items.{AreItems, Ending, Item, lexical}
use Rattle.cfgx_syntax.specs.declared.error.ParseError.{ParseError}
use Rattle.cfgx_c.specs.Tokens.{c_token}
use Rattle.cfgx_c.specs.declared.tokens.CfgxToken.{CfgxToken}
use Rattle.cfgx_c.specs.internal.Refusals.{fault_at}

-- The text is a stripped one, with `offset` bytes before it.

-- the tokens are those of the text, and the error is the fault at which they end
pub record HasTokens (text : List ℕ) (offset : ℕ) (tokens : List CfgxToken)
    (error : Option (ParseError Global)) : Type 0 where
  pub items : List Item
  pub ending : Ending
  pub are_items : AreItems text items ending
  pub shown : tokens ≡ map (c_token offset) items
  pub ends : lexical text ending ≡ option_map fault_at error

-- the number of tokens before the text ends, or before its lexical fault
pub record HasTokenCount (text : List ℕ) (count : ℕ) : Type 0 where
  pub items : List Item
  pub ending : Ending
  pub are_items : AreItems text items ending
  pub counted : count ≡ length items

-- the tokens are those of the text
pub record AreTokens (text : List ℕ) (offset : ℕ) (tokens : List CfgxToken) : Type 0 where
  pub items : List Item
  pub ending : Ending
  pub are_items : AreItems text items ending
  pub shown : tokens ≡ map (c_token offset) items
