-- What `cfgx_tokens` lists.
-- Source: include/cfgx.h.
use Rattle.std.specs.Prelude.{◌≡◌, ◌≤◌, ◌+◌, ℕ, List, Option, Some, None, length, map}
use Rattle.std.specs.Prelude.{slice_range}
use Rattle.std.specs.{List.AllZip, Str.IsValidUpTo}
use Rattle.cfgx_syntax.specs.{Error.Fault, Token.Spells, Token.Token}
use Rattle.cfgx_syntax.specs.Items.{AreItems, Ending, Item, lexical}
use Rattle.cfgx_syntax.specs.Stripping.{strip, strip_offset}
use Rattle.cfgx_c.specs.Buffer.{Fills}
use Rattle.cfgx_c.specs.Faults.{c_fault, no_fault, utf8_fault}
use Rattle.cfgx_c.specs.Status.{done, faulty}
use Rattle.cfgx_c.specs.declared.fault.CfgxFault.{CfgxFault}
use Rattle.cfgx_c.specs.declared.tokens.CfgxToken.{CfgxToken}

-- the number of the kind of a token
abbrev pub token_number : Token → ℕ
token_number (Token.key word) = 1
token_number (Token.value inside) = 2
token_number Token.equals = 3
token_number Token.all = 4
token_number Token.any = 5
token_number Token.not = 6
token_number Token.open_paren = 7
token_number Token.close_paren = 8
token_number Token.comma = 9

-- the token as C sees it; `offset` bytes were stripped before the text
abbrev pub c_token : ℕ → Item → CfgxToken
c_token offset item = record {
  kind = token_number item.token;
  start = item.start + offset;
  end = item.end + offset;
}

-- the token has the kind of the item, and lies in the text, where the bytes at its span spell it
pub record Shows (text : List ℕ) (item : Item) (token : CfgxToken) : Type 0 where
  pub kind : token.kind ≡ token_number item.token
  pub ordered : token.start ≤ token.end
  pub inside : token.end ≤ length text
  pub spelled : Spells (slice_range text token.start token.end) item.token

-- what the status and the fault say of the lexical fault of the text, if it has one
abbrev pub TellsLexical : List ℕ → Option Fault → ℕ → CfgxFault → Type 0
TellsLexical text None status fault = (status ≡ done) × (fault ≡ no_fault)
TellsLexical text (Some found) status fault =
    (status ≡ faulty) × (fault ≡ c_fault 0 (strip_offset text) found)

-- The buffer was filled with the tokens of the stripped text, each where it stands in the text.
-- Status and fault tell how they end.
pub record ListsTokens (text : List ℕ) (status : ℕ) (old new : List CfgxToken) (needed : ℕ)
    (fault : CfgxFault) : Type 0 where
  pub items : List Item
  pub ending : Ending
  pub are_items : AreItems (strip text) items ending
  pub each : AllZip (Shows text) items (map (c_token (strip_offset text)) items)
  pub fills : Fills (map (c_token (strip_offset text)) items) old new needed
  pub tells : TellsLexical text (lexical (strip text) ending) status fault

-- the tokens of the text end at a lexical fault
pub record HasLexicalFault (text : List ℕ) : Type 0 where
  pub items : List Item
  pub ending : Ending
  pub are_items : AreItems text items ending
  pub fault : Fault
  pub has : lexical text ending ≡ Some fault

-- the fault has the first byte of the text that is no UTF-8, and there is no offset
abbrev pub IsNoUtf8 : List ℕ → CfgxFault → ℕ → Type 0
IsNoUtf8 text fault offset =
    (start : ℕ) × IsValidUpTo text start × (fault ≡ utf8_fault 0 start) × (offset ≡ 0)
