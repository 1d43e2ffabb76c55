-- What a `Lexer` yields: the items of a text in order, and then its fault, if it has one.
use Rattle.std.specs.Prelude.{◌≡◌, drop, Option, Some, None, Result, Ok, Err}
use Rattle.cfgx_syntax.specs.{Cut.CanBeCut, declared.error.Failure.Failure}
use Rattle.cfgx_syntax.specs.{declared.lexer.Token.Token, declared.lexer.LexerToken.LexerToken}
use Rattle.cfgx_syntax.specs.declared.lexer.Token.TheVariants as given
use Rattle.cfgx_syntax.specs.Token as spelled
use Rattle.cfgx_syntax.specs.Items.{Item, Ending, IsBlank, Stands, EndsAs, lexical}
use Rattle.cfgx_syntax.specs.LexerState.{LexerState, at_end}
use Rattle.cfgx_syntax.specs.Error.{Fault, FailsWith, fault_in}

-- a token without the address of its text
abbrev pub token_of : Token → spelled.Token
token_of (given.Key word) = spelled.Token.key word.now
token_of (given.Value inside) = spelled.Token.value inside.now
token_of given.Equals = spelled.Token.equals
token_of given.All = spelled.Token.all
token_of given.Any = spelled.Token.any
token_of given.Not = spelled.Token.not
token_of given.OpenParen = spelled.Token.open_paren
token_of given.CloseParen = spelled.Token.close_paren
token_of given.Comma = spelled.Token.comma

abbrev pub item_of : LexerToken → Item
item_of t = record { token = token_of t.token; start = t.span.start; end = t.span.end }

-- the lexer yields the next item, which can be cut out of the text, and goes on after it
pub record GivesItem (old : LexerState) (item : Item) (new : LexerState) : Type 0 where
  pub stands : Stands old.text old.place item
  pub cut : CanBeCut old.text item.token item.start item.end
  pub goes_on : new ≡ record old { place = item.end }

-- the lexer yields the fault of the ending, and then nothing more
pub record GivesFault {A : Type 0} (old : LexerState) (failure : Failure A) (new : LexerState) :
    Type 0 where
  pub ending : Ending
  pub ends : EndsAs old.text old.place ending
  pub fault : Fault
  pub refused : lexical old.text ending ≡ Some fault
  pub fails : FailsWith (fault_in old.text fault) failure
  pub is_over : new ≡ at_end old

-- One call of `next` yields the next item, or `None` if only white space is left, else a failure.
abbrev pub GivesNext : {A : Type 0} → LexerState → Option (Result LexerToken (Failure A))
    → LexerState → Type 0
GivesNext old None new = IsBlank (drop old.place old.text) × (new ≡ at_end old)
GivesNext old (Some (Ok found)) new = GivesItem old (item_of found) new
GivesNext old (Some (Err failure)) new = GivesFault old failure new
