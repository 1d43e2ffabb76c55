-- Tokens that a lexer yields, and how they end.
use Rattle.std.proofs.Common.{◌≡◌, ◌∙◌, ◌≤◌, ◌<◌, ◌+◌, ℕ, List, [], ◌∷◌, ◌++◌, Option, Some, None}
use Rattle.std.specs.Prelude.{Err, Ok, Result}
use Rattle.std.proofs.Common.{ap, append-nil, append_assoc, arith, drop, length, length-drop}
use Rattle.std.proofs.Common.{length-take, map, option_map, refl, sym}
use Rattle.std.proofs.Math.ListN.{set}
use Rattle.std.proofs.Math.Seq.{drop-length}
use Rattle.std.proofs.lemmas.List.{length-append, map-append, map-id, nil_from_length}
use Rattle.std.specs.{List.AllZip, Prelude.slice_range, declared.alloc.Global.Global}
use Rattle.cfgx_syntax.proofs.{FirstToken.Spells-some, Wrapping.strip-stands}
use Rattle.cfgx_syntax.proofs.TokenList.{Follows-stands, ItemsFrom-same, no_more_items}
use Rattle.cfg_expr.proofs.Written.{written_next}
use Rattle.cfgx_syntax.specs.{Error.TextFault, Stripping.strip, Stripping.strip_offset}
use Rattle.cfgx_syntax.specs.Items.{AreItems, Ending, EndsAs, IsBlank, Item, ItemsFrom}
use Rattle.cfgx_syntax.specs.Lexer.{GivesFault, GivesItem, GivesNext, item_of}
use Rattle.cfgx_syntax.specs.{LexerState.LexerState, LexerState.starting}
use Rattle.cfgx_syntax.specs.declared.error.Failure.{Failure}
use Rattle.cfgx_syntax.specs.declared.error.Failure.TheVariants as failure
use Rattle.cfgx_syntax.specs.declared.error.ParseError.{ParseError}
use Rattle.cfgx_syntax.specs.declared.lexer.LexerToken.{LexerToken}
use Rattle.cfgx_c.specs.Buffer.{Fills}
use Rattle.cfgx_c.specs.Tokens.{HasLexicalFault, ListsTokens, Shows, TellsLexical, c_token}
use Rattle.cfgx_c.specs.declared.{fault.CfgxFault.CfgxFault, tokens.CfgxToken.CfgxToken}
use Rattle.cfgx_c.specs.internal.Lexing.{AreTokens, HasTokenCount, HasTokens}
use Rattle.cfgx_c.specs.internal.Refusals.{fault_at}
use Rattle.cfgx_c.proofs.StrippedParts.{part_of_stripped}

-- the lexer of the text has come to this place, behind the items that the tokens show
pub record Reads (text : List ℕ) (offset : ℕ) (tokens : List CfgxToken) (now : LexerState)
    : Type 0 where
  pub of_text : now.text ≡ text
  pub items : List Item
  pub shown : tokens ≡ map (c_token offset) items
  pub behind : (rest : List Item) (ending : Ending) → ItemsFrom text now.place rest ending
      → AreItems text (items ++ rest) ending

pub Reads-start : (text : List ℕ) (offset : ℕ) → Reads text offset [] (starting text)
Reads-start text offset = record {
  of_text = refl;
  items = [];
  shown = refl;
  behind = λ rest ending come. come;
}

module _ {text : List ℕ} {offset : ℕ} {tokens : List CfgxToken} {now : LexerState}
    (reads : Reads text offset tokens now) where
  -- one token more
  pub Reads-token : (lexed : LexerToken) (next : LexerState) → GivesItem now (item_of lexed) next
      → Reads text offset (tokens ++ c_token offset (item_of lexed) ∷ []) next
  Reads-token lexed next gives =
      let item = item_of lexed in
      let show = c_token offset in
      rw gives.goes_on (record {
        of_text = reads.of_text;
        items = reads.items ++ item ∷ [];
        shown = ap (λ xs. xs ++ show item ∷ []) reads.shown
            ∙ sym (map-append show reads.items (item ∷ []));
        behind = λ rest ending come. rw append_assoc
            (reads.behind (item ∷ rest) ending (rw reads.of_text at gives.stands, come));
      })

  -- the token lies in the text
  pub token_within : (lexed : LexerToken) (next : LexerState) → GivesItem now (item_of lexed) next
      → (lexed.span.start ≤ lexed.span.end) × (lexed.span.end ≤ length text)
  token_within lexed next gives =
      let stands = rw reads.of_text at gives.stands in (stands.ordered, stands.inside)

  -- a token has a byte at least
  pub place_rises : (lexed : LexerToken) (next : LexerState) → GivesItem now (item_of lexed) next
      → now.place + 1 ≤ next.place
  place_rises lexed next gives =
      let item = item_of lexed in
      let some = Spells-some (slice_range now.text item.start item.end) item.token
      gives.stands.spelled in
      rw gives.goes_on (omega (
        arith,
        some,
        gives.stands.comes_after,
        length-take {A = ℕ},
        length-drop {A = ℕ},
      ))

  -- only white space is left
  pub HasTokens-end : IsBlank (drop now.place now.text) → HasTokens text offset tokens None
  HasTokens-end blank = record {
    items = reads.items;
    ending = Ending.blank;
    are_items = rw (append-nil reads.items)
        at (reads.behind [] Ending.blank (rw reads.of_text at blank));
    shown = reads.shown;
    ends = refl;
  }

  -- the lexical fault is next
  pub HasTokens-fault : (error : ParseError Global) (next : LexerState)
      → GivesFault {A = Global} now (failure.Parse error) next
      → HasTokens text offset tokens (Some error)
  HasTokens-fault error next gives = record {
    items = reads.items;
    ending = gives.ending;
    are_items = rw (append-nil reads.items)
        at (reads.behind [] gives.ending (rw reads.of_text at gives.ends));
    shown = reads.shown;
    ends = rw reads.of_text at gives.refused
        ∙ ap (λ (f : TextFault). Some (record { cause = f.cause; start = f.start; end = f.end }))
        (sym gives.fails);
  }

  -- the lexical fault is next, also where there is no memory for it
  pub HasLexicalFault-next : (failed : Failure Global) (next : LexerState)
      → GivesFault {A = Global} now failed next → HasLexicalFault text
  HasLexicalFault-next failed next gives = record {
    items = reads.items;
    ending = gives.ending;
    are_items = rw (append-nil reads.items)
        at (reads.behind [] gives.ending (rw reads.of_text at gives.ends));
    fault = gives.fault;
    has = rw reads.of_text at gives.refused;
  }

-- the tokens so far were written over those of the buffer, and as many are left as there is room
pub record Writes (text : List ℕ) (offset : ℕ) (now : LexerState) (written : ℕ)
    (old buffer : List CfgxToken) : Type 0 where
  pub front : List CfgxToken
  pub reads : Reads text offset front now
  pub left : List Item
  pub ending : Ending
  pub come : ItemsFrom text now.place left ending
  pub count : written ≡ length front
  pub room : written + length left ≡ length old
  pub shown : buffer ≡ front ++ drop written old

pub Writes-start : (text : List ℕ) (offset : ℕ) (buffer : List CfgxToken)
    → HasTokenCount text (length buffer) → Writes text offset (starting text) 0 buffer buffer
Writes-start text offset buffer has = record {
  front = [];
  reads = Reads-start text offset;
  left = has.items;
  ending = has.ending;
  come = has.are_items;
  count = refl;
  room = omega (arith, has.counted);
  shown = refl;
}

module _ {text : List ℕ} {offset : ℕ} {now : LexerState} {written : ℕ}
    {old buffer : List CfgxToken} (writes : Writes text offset now written old buffer) where
  -- all tokens were written
  pub Writes-all : written ≡ length old → AreTokens text offset buffer
  Writes-all all =
      let none : length writes.left ≡ 0 = omega (arith, all, writes.room) in
      let no_more = nil_from_length writes.left none in
      record {
        items = writes.reads.items;
        ending = writes.ending;
        are_items = rw (append-nil writes.reads.items)
            at (writes.reads.behind [] writes.ending (rw no_more at writes.come));
        shown = writes.shown ∙ ap (λ n. writes.front ++ drop n old) all
            ∙ rw (drop-length, append-nil) writes.reads.shown;
      }

  module _ (more : written < length old) where
    -- there is a next token
    not_over : (ending : Ending) → EndsAs now.text now.place ending → ⊥
    not_over ending ends =
        let over = no_more_items text now.place writes.left writes.ending ending
        (rw writes.reads.of_text at ends) writes.come in
        omega (arith, more, writes.room, ap length over.0)

    -- the lexer yields it
    pub Writes-next : (given : Option (Result LexerToken (Failure Global))) (next : LexerState)
        → GivesNext {A = Global} now given next
        → (lexed : LexerToken) × (given ≡ Some (Ok lexed))
    Writes-next None next gives = absurd (not_over Ending.blank gives.0)
    Writes-next (Some (Ok lexed)) next gives = (lexed, refl)
    Writes-next (Some (Err failed)) next gives = absurd (not_over gives.ending gives.ends)

    -- one token more
    pub Writes-token : (lexed : LexerToken) (next : LexerState) → GivesItem now (item_of lexed) next
        → Writes text offset next (written + 1) old
        (set buffer written (c_token offset (item_of lexed)))
    Writes-token lexed next gives =
        let token = c_token offset (item_of lexed) in
        let follows = Follows-stands text now.place (item_of lexed) writes.left
        writes.ending (rw writes.reads.of_text at gives.stands) writes.come in
        record {
          front = writes.front ++ token ∷ [];
          reads = Reads-token writes.reads lexed next gives;
          left = follows.rest;
          ending = writes.ending;
          come = rw gives.goes_on follows.come;
          count = omega (arith, writes.count, length-append writes.front (token ∷ []));
          room = omega (arith, writes.room, ap length follows.items_are);
          shown = rw map-id at (written_next (λ (x : CfgxToken). x) writes.front token old buffer
              written writes.count more (rw map-id writes.shown));
        }

-- the tokens that were written are those that were counted
pub same_tokens : (text : List ℕ) (offset : ℕ) (counted written : List CfgxToken)
    (error : Option (ParseError Global)) → HasTokens text offset counted error
    → AreTokens text offset written → written ≡ counted
same_tokens text offset counted written error has are =
    let same = ItemsFrom-same text 0 has.items are.items has.ending are.ending
    has.are_items are.are_items in
    are.shown ∙ ap (map (c_token offset)) same.0 ∙ sym has.shown

-- each token shows its item, with its span moved by what was stripped
shown_each : (text : List ℕ) (from : ℕ) (items : List Item) (ending : Ending)
    → ItemsFrom (strip text) from items ending
    → AllZip (Shows text) items (map (c_token (strip_offset text)) items)
shown_each text from [] ending come = tt
shown_each text from (item ∷ items) ending (stands, more) = (
  record {
    kind = refl;
    ordered = omega (arith, stands.ordered);
    inside = let (is, within) = strip-stands text in omega (arith, stands.inside, within);
    spelled = rw (part_of_stripped text item.start item.end stands.inside)
        at stands.spelled;
  },
  shown_each text item.end items ending more,
)

-- what the call says of the tokens, and of how they end
pub ListsTokens-read : (text : List ℕ) (tokens old new : List CfgxToken) (needed status : ℕ)
    (fault : CfgxFault) (error : Option (ParseError Global)) → Fills tokens old new needed
    → HasTokens (strip text) (strip_offset text) tokens error
    → TellsLexical text (option_map fault_at error) status fault
    → ListsTokens text status old new needed fault
ListsTokens-read text tokens old new needed status fault error fills has tells = record {
  items = has.items;
  ending = has.ending;
  are_items = has.are_items;
  each = shown_each text 0 has.items has.ending has.are_items;
  fills = rw has.shown at fills;
  tells = rw has.ends tells;
}
