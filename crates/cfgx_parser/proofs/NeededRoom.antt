-- The room that a parser needs is at most the number of bytes that it has read.
use Rattle.std.proofs.Common.{◌≡◌, ℕ, ◌+◌, ◌≤◌, List, [], ◌∷◌, length, Option, None, Some}
use Rattle.std.proofs.Common.{Result, Ok, Err, option_map, arith, refl, if◌then◌else◌, slice_range}
use Rattle.std.proofs.Common.{length-append, ◌-◌, drop, Bool, true, false, ◌<◌}
use Rattle.std.proofs.Common.{reverse, ◌∙◌, OnErr}
use Rattle.std.proofs.lemmas.List.{length-set, length-take, length-reverse}
use Rattle.cfgx_syntax.specs.{Error.Fault, Token.Token, Token.Spells, Token.IsKey}
use Rattle.cfgx_syntax.specs.Items.{Item, Stands}
use Rattle.cfgx_grammar.specs.parsing.State.{Pending}
use Rattle.cfgx_grammar.specs.parsing.Step.{allows_count, member_count, concluded_by, one_root}
use Rattle.cfgx_grammar.specs.FollowSet.{next}
use Rattle.cfgx_grammar.specs.parsing.Step.{apply, step, over_top, ended_by, leaf_ended}
use Rattle.cfgx_grammar.specs.parsing.Step.{predicate_ended, function_ended, closed_by, result_map}
use Rattle.cfgx_parser.specs.declared.nodes.ExprNode.{ExprNode}
use Rattle.cfgx_parser.specs.parsing.NodeState.{OpenFunction, ParserState}
use Rattle.cfgx_parser.specs.parsing.Fields.{opens_in, counted_around}
use Rattle.cfgx_parser.specs.parsing.Parser.{concluded, pending_count, room_of, state_of, Gives}
use Rattle.cfgx_parser.specs.declared.parser.{OpenFunc.OpenFunc, OpenList.OpenList}
use Rattle.cfgx_parser.specs.declared.parser.{Parser.Parser, Halt.Halt}
use Rattle.cfgx_parser.specs.declared.parser.Halt.TheVariants as halt

-- Changes of a state that need no more room.

pub length-over_top : (f : OpenFunction → OpenFunction) (stack : List OpenFunction)
    → length (over_top f stack) ≡ length stack
length-over_top f [] = refl
length-over_top f (top ∷ rest) = refl

pub count-option_map : {X Y : Type 0} (f : X → Y) (p : Option X)
    → pending_count (option_map f p) ≡ pending_count p
count-option_map f None = refl
count-option_map f (Some p) = refl

room-leaf : (s t : ParserState) (p : Pending) (leaf : Result ExprNode Fault) → s.pending ≡ Some p
    → result_map (leaf_ended s) leaf ≡ Ok t → room_of t ≡ room_of s
room-leaf s t p (Ok leaf) is ended = grind (arith, length-over_top, length-append)
room-leaf s t p (Err fault) is ended = absurd cc

room-ended_by : (s t : ParserState) (p : Option Pending) → s.pending ≡ p → ended_by s p ≡ Ok t
    → room_of t ≡ room_of s
room-ended_by s t None is ended = grind arith
room-ended_by s t (Some p) is ended = room-leaf s t p _ is ended

pub room-predicate_ended : (s t : ParserState) → predicate_ended s ≡ Ok t → room_of t ≡ room_of s
room-predicate_ended s t ended = room-ended_by s t s.pending refl ended

room-function_ended : (stack : List OpenFunction) (s : ParserState) → s.stack ≡ stack
    → room_of (function_ended stack s) ≤ room_of s
room-function_ended [] s is = grind arith
room-function_ended (top ∷ rest) s is = grind (arith, length-over_top, length-set)

room-closed : (s t : ParserState) (r : Result ParserState Fault) → predicate_ended s ≡ r
    → result_map (λ u. function_ended u.stack u) r ≡ Ok t → room_of t ≤ room_of s
room-closed s t (Ok u) is ended = grind (arith, room-predicate_ended, room-function_ended)
room-closed s t (Err fault) is ended = absurd cc

room-allowed : (s t : ParserState) (allowed : Bool) (fault : Fault)
    → (if allowed then result_map (λ u. function_ended u.stack u) (predicate_ended s)
    else Err fault) ≡ Ok t → room_of t ≤ room_of s
room-allowed s t true fault closed = room-closed s t (predicate_ended s) refl closed
room-allowed s t false fault closed = absurd cc

room-closed_by : (s t : ParserState) (item : Item) (stack : List OpenFunction)
    → closed_by s item stack ≡ Ok t → room_of t ≤ room_of s
room-closed_by s t item [] closed = absurd cc
room-closed_by s t item (top ∷ rest) closed =
    room-allowed s t (allows_count top.function (member_count top s.pending)) _ closed

-- the room that a token needs
abbrev token_room : Token → ℕ
token_room (Token.key word) = 1
token_room Token.all = 3
token_room Token.any = 3
token_room Token.not = 3
token_room _ = 0

room-apply : (s t : ParserState) (item : Item) (token : Token) → apply s item token ≡ Ok t
    → room_of t ≤ room_of s + token_room token
room-apply s t item (Token.key word) is = grind arith
room-apply s t item (Token.value word) is = grind (arith, count-option_map)
room-apply s t item Token.equals is = grind arith
room-apply s t item Token.all is = grind (arith, length-append)
room-apply s t item Token.any is = grind (arith, length-append)
room-apply s t item Token.not is = grind (arith, length-append)
room-apply s t item Token.open_paren is = grind (arith, length-over_top)
room-apply s t item Token.close_paren is = grind (arith, room-closed_by)
room-apply s t item Token.comma is = grind (arith, room-predicate_ended)

-- The bytes of a token.

key-bytes : (word : List ℕ) → IsKey word → 1 ≤ length word
key-bytes [] key = grind (arith, key.spelled)
key-bytes (first ∷ others) key = omega arith

token-bytes : (bytes : List ℕ) (token : Token) → Spells bytes token
    → token_room token ≤ length bytes
token-bytes bytes (Token.key word) spelled = rw spelled.0 (key-bytes word spelled.1)
token-bytes bytes (Token.value word) spelled = omega arith
token-bytes bytes Token.equals spelled = omega arith
token-bytes bytes Token.all spelled = grind arith
token-bytes bytes Token.any spelled = grind arith
token-bytes bytes Token.not spelled = grind arith
token-bytes bytes Token.open_paren spelled = omega arith
token-bytes bytes Token.close_paren spelled = omega arith
token-bytes bytes Token.comma spelled = omega arith

room-next : (s t : ParserState) (item : Item) (allowed : Bool) (fault : Fault)
    → (if allowed then apply s item item.token else Err fault) ≡ Ok t
    → room_of t ≤ room_of s + token_room item.token
room-next s t item true fault steps = room-apply s t item item.token steps
room-next s t item false fault steps = absurd cc

pub room-step : (text : List ℕ) (place : ℕ) (item : Item) (last : Option Token) (s t : ParserState)
    → Stands text place item → step last s item ≡ Ok t → room_of s ≤ place → room_of t ≤ item.end
room-step text place item last s t stands steps few =
    let cut = slice_range text item.start item.end in
    omega (
      arith,
      few,
      stands.comes_after,
      stands.ordered,
      token-bytes cut item.token stands.spelled,
      length-take (item.end - item.start) (drop item.start text),
      room-next s t item (next last item.token) _ steps,
    )

-- The end of a text with no open function.

concluded-by : (s t : ParserState) (len : ℕ) (stack : List OpenFunction) → stack ≡ []
    → predicate_ended s ≡ Ok t → concluded_by len s stack ≡ one_root len t
concluded-by s t len [] is ended = rw ended refl
concluded-by s t len (top ∷ rest) is ended = absurd cc

pub concluded-root : (s t : ParserState) (len : ℕ) → s.stack ≡ [] → predicate_ended s ≡ Ok t
    → concluded s len ≡ one_root len t
concluded-root s t len is ended = concluded-by s t len s.stack is ended

-- The room of a parser that halts.

length-opens_in : (list : OpenList) (functions : List OpenFunc)
    → length (opens_in list functions) ≡ length functions
length-opens_in list [] = refl
length-opens_in list (top ∷ rest) = grind (arith, length-opens_in top.around rest)

length-counted : (functions : List OpenFunc) → length functions ≤ counted_around functions
length-counted [] = omega arith
length-counted (top ∷ rest) = omega (arith, length-counted rest)

module _ {A : Type 0} where
  -- two open functions have a node each
  pub room-functions : (p : Parser A) → 2 ≤ length p.func_stack.items
      → 4 < room_of (state_of {A = A} p)
  room-functions p many =
      let functions = reverse p.func_stack.items in
      omega (
        arith,
        many,
        p.bounded,
        length-counted functions,
        length-opens_in p.list functions,
        length-reverse p.func_stack.items,
      )

  -- what a parser that needs no more room gives
  pub Gives-later : (result : Result (Unit {0}) Halt) (old between new : Parser A)
      (answer later : Result ParserState Fault)
      → room_of (state_of {A = A} between) ≤ room_of (state_of {A = A} old) → answer ≡ later
      → Gives {A = A} result between new later → Gives {A = A} result old new answer
  Gives-later (Ok done) old between new answer later less same gives = same ∙ gives
  Gives-later (Err halt.Fault) old between new answer later less same gives = same ∙ gives
  Gives-later (Err halt.Memory) old between new answer later less same gives =
      omega (arith, less, gives)

pub OnErr-always : {T E : Type 0} (result : Result T E) {P : Type 0} → P → OnErr result P
OnErr-always (Ok value) p = tt
OnErr-always (Err error) p = p
