-- The result for the rest of a text is that for the whole, one token of the lexer after another.
use Rattle.std.proofs.Common.{◌≡◌, ℕ, ◌≤◌, List, [], ◌∷◌, length, drop, Option, Some}
use Rattle.std.proofs.Common.{arith, Result, Ok, Err}
use Rattle.cfgx_syntax.specs.Items.{Item, Ending, IsBlank}
use Rattle.cfgx_syntax.{specs.LexerState.LexerState, specs.declared.error.Failure.Failure}
use Rattle.cfgx_syntax.{specs.declared.lexer.LexerToken.LexerToken, specs.Token.Token}
use Rattle.cfgx_syntax.specs.Lexer.{GivesItem, GivesFault, item_of, token_of}
use Rattle.cfgx_syntax.specs.declared.error.Failure.TheVariants as failure
use Rattle.cfgx_grammar.proofs.Continuing.{Continues, Continues-token, Continues-ended}
use Rattle.cfgx_parser.{specs.parsing.NodeState.ParserState, specs.parsing.Fields.last_of}
use Rattle.cfgx_parser.{specs.parsing.Fields.token_like, specs.declared.parser.LastToken.LastToken}
use Rattle.cfgx_parser.{specs.declared.parser.Parser.Parser}
use Rattle.cfgx_grammar.specs.parsing.Step.{step, conclude, answer_from}
use Rattle.cfgx_parser.specs.parsing.Parser.{state_of, FailsAs, Ends, ReadsAll}
use Rattle.cfgx_parser.specs.parsing.Parser.{HaltsAs, ReadsShort, room_of}
use Rattle.cfgx_parser.specs.declared.parser.Halt.{Halt}
use Rattle.cfgx_parser.specs.declared.parser.Halt.TheVariants as halt
use Rattle.cfgx_parser.proofs.NeededRoom.{room-step}

-- what the parser keeps of the last token decides the result
answer-like : (last : Option Token) (s : ParserState) (text : List ℕ) (items : List Item)
    (ending : Ending)
    → answer_from (token_like (last_of last)) s text items ending
    ≡ answer_from last s text items ending
answer-like last s text [] ending = grind arith
answer-like last s text (item ∷ items) ending = grind arith

-- the lexer and the parser have come to this place
pub record LeadsTo {A : Type 0} (lexer now : LexerState) (old : Parser A) (last : LastToken)
    (parser : Parser A) : Type 0 where
  pub text : now.text ≡ lexer.text
  pub continues : Continues lexer.text lexer.place (state_of {A = A} old) now.place
      (token_like last) (state_of {A = A} parser)
  -- a new parser needs no more room than there are bytes before this place
  pub few : room_of (state_of {A = A} old) ≡ 0
      → (room_of (state_of {A = A} parser) ≤ now.place)
      × (room_of (state_of {A = A} parser) ≤ length lexer.text)

module _ {A : Type 0} {lexer now : LexerState} {old before : Parser A} {last : LastToken}
    (l : LeadsTo {A = A} lexer now old last before) (after : Parser A) where
  abbrev from : ParserState
  from = state_of {A = A} before

  -- a token that the parser accepts
  pub LeadsTo-read : (next : LexerState) (lexed : LexerToken) → GivesItem now (item_of lexed) next
      → step (token_like last) from (item_of lexed) ≡ Ok (state_of {A = A} after)
      → LeadsTo {A = A} lexer next old (last_of (Some (token_of lexed.token))) after
  LeadsTo-read next lexed gives steps = rw gives.goes_on (record {
    text = l.text;
    continues = record {
      rest_of = λ items ending come.
          let (rest, comes, is) = Continues-token l.continues (item_of lexed) _
          (rw l.text at gives.stands) steps items ending come in (
            rest,
            comes,
            rw (answer-like (Some (token_of lexed.token)) (state_of {A = A} after)
                lexer.text rest ending) is,
          );
    };
    few = λ starts.
        let stands = rw l.text at gives.stands in
        let less = room-step lexer.text now.place (item_of lexed) (token_like last) from _ stands
        steps (l.few starts).0 in
        (less, omega (arith, less, stands.inside));
  })

  -- a token with a fault, which is the fault of the text
  pub ReadsAll-read : (next : LexerState) (item : Item) (failure : Failure A)
      → GivesItem now item next → FailsAs lexer.text failure (step (token_like last) from item)
      → ReadsAll {A = A} lexer old after (Err failure)
  ReadsAll-read next item (failure.Parse error) gives (fault, is, same) items ending come =
      let stands = rw l.text at gives.stands in
      (fault, (Continues-token l.continues item _ stands is items ending come).2, same)
  ReadsAll-read next item (failure.Memory error) gives fails items ending come = tt

  pub ReadsShort-read : (next : LexerState) (item : Item) (h : Halt) (failure : Failure A)
      → GivesItem now item next
      → HaltsAs {A = A} h (room_of from) after (step (token_like last) from item)
      → ReadsShort {A = A} lexer old (Err failure)
  ReadsShort-read next item halt.Fault failure gives is starts short items ending come accepted =
      let stands = rw l.text at gives.stands in
      rw (Continues-token l.continues item _ stands is items ending come).2 at accepted
  ReadsShort-read next item halt.Memory failure gives needs starts short items ending come given =
      absurd (omega (arith, needs, (l.few starts).1, short))

  -- the lexical fault
  pub ReadsAll-fault : (next : LexerState) (failure : Failure A)
      → GivesFault {A = A} now failure next → ReadsAll {A = A} lexer old after (Err failure)
  ReadsAll-fault next failure gives items ending come =
      let answer = Continues-ended l.continues gives.ending (rw l.text at gives.ends) items ending
      come in
      let fails = rw l.text at gives.fails in
      rw (answer, rw l.text at gives.refused) (grind (arith, fails))

  pub ReadsShort-fault : (next : LexerState) (failure : Failure A)
      → GivesFault {A = A} now failure next → ReadsShort {A = A} lexer old (Err failure)
  ReadsShort-fault next failure gives starts short items ending come accepted =
      let answer = Continues-ended l.continues gives.ending (rw l.text at gives.ends) items ending
      come in
      rw (answer, rw l.text at gives.refused) at accepted

  -- the end of the text
  pub ReadsAll-end : (seen : List ℕ) (result : Result (Unit {0}) (Failure A)) → seen ≡ lexer.text
      → IsBlank (drop now.place now.text)
      → Ends {A = A} result seen after (conclude (token_like last) (length seen) from)
      → ReadsAll {A = A} lexer old after result
  ReadsAll-end seen result is blank ends items ending come =
      rw (Continues-ended l.continues Ending.blank (rw l.text at blank) items ending come)
      (rw is at ends)

  pub ReadsShort-end : (seen : List ℕ) (h : Halt) (failure : Failure A) → seen ≡ lexer.text
      → IsBlank (drop now.place now.text)
      → HaltsAs {A = A} h (room_of from) after (conclude (token_like last) (length seen) from)
      → ReadsShort {A = A} lexer old (Err failure)
  ReadsShort-end seen halt.Fault failure is blank ends starts short items ending come accepted =
      rw (
        Continues-ended l.continues Ending.blank (rw l.text at blank) items ending come,
        rw is at ends,
      ) at accepted
  ReadsShort-end seen halt.Memory failure is blank needs starts short items ending come accepted =
      absurd (omega (arith, needs, (l.few starts).1, short))
