-- The clauses of the parser's functions: they compute the steps.
use Rattle.std.specs.Prelude.{◌≡◌, ℕ, ◌+◌, ◌-◌, ◌*◌, ◌<◌, ◌≤◌, List, length, reverse, option_map}
use Rattle.std.specs.Prelude.{Option, Some, None, Result, Ok, Err, IsOk}
use Rattle.std.specs.declared.ops.Range.{Range}
use Rattle.cfgx_parser.specs.declared.located.Span.{Span}
use Rattle.cfgx_syntax.specs.Token as spelled
use Rattle.cfgx_syntax.specs.Items.{Item, Ending, ItemsFrom}
use Rattle.cfgx_syntax.specs.LexerState.{LexerState}
use Rattle.cfgx_syntax.specs.Error.{Fault, fault_in, fault_of}
use Rattle.cfgx_parser.specs.declared.parser.Halt.{Halt}
use Rattle.cfgx_parser.specs.declared.parser.Halt.TheVariants as halt
use Rattle.cfgx_syntax.specs.declared.error.Failure.{Failure}
use Rattle.cfgx_syntax.specs.declared.error.Failure.TheVariants as failure
use Rattle.cfgx_syntax.specs.declared.lexer.LexerToken.{LexerToken}
use Rattle.cfgx_syntax.specs.declared.lexer.Token.{Token}
use Rattle.cfgx_syntax.specs.declared.lexer.Token.TheVariants as given
use Rattle.cfgx_parser.specs.nodes.NodeWriter.{written_of}
use Rattle.cfgx_grammar.specs.parsing.State.{Function, Pending}
use Rattle.cfgx_parser.specs.nodes.Node.{Written, with_leaf}
use Rattle.cfgx_parser.specs.parsing.NodeState.{ParserState, classified}
use Rattle.cfgx_grammar.specs.parsing.Step.{opened, closed_by, concluded_by, result_map}
use Rattle.cfgx_grammar.specs.parsing.Step.{answer_from, over_top, with_parens}
use Rattle.cfgx_grammar.specs.LastPredicate.{with_value, located_text}
use Rattle.cfgx_parser.specs.parsing.Fields.{opens_in, roots_in, pending_of, plain_fault}
use Rattle.cfgx_parser.specs.declared.parser.Parser.{Parser}

-- the state that the parser's fields keep
abbrev pub state_of : {A : Type 0} → Parser A → ParserState
state_of p = record {
  stack = opens_in p.list (reverse p.func_stack.items);
  pending = option_map pending_of p.pending;
  roots = roots_in p.list (reverse p.func_stack.items);
  written = written_of p.writer;
}

-- the number of pending predicates
abbrev pub pending_count : {X : Type 0} → Option X → ℕ
pending_count None = 0
pending_count (Some p) = 1

-- the number of nodes, with that of the pending predicate
abbrev pub node_room_of : ParserState → ℕ
node_room_of s = length s.written.nodes + pending_count s.pending

-- The room that a parser needs, which is at most the number of bytes that it has read: a node takes
-- one, and an open function two more, as its name has three bytes.
abbrev pub room_of : ParserState → ℕ
room_of s = node_room_of s + 2 * length s.stack

-- A parser that halts at a fault has noted the fault of the steps. One that is out of memory needed
-- more than the room that it has inline.
abbrev pub HaltsAs : {A : Type 0} → Halt → ℕ → Parser A → Result ParserState Fault → Type 0
HaltsAs halt.Fault room parser answer = answer ≡ Err (plain_fault parser.fault)
HaltsAs halt.Memory room parser answer = 4 < room

-- a failure that has a fault has that of the steps
abbrev pub FailsAs : {A : Type 0} → List ℕ → Failure A → Result ParserState Fault → Type 0
FailsAs text (failure.Parse error) answer = (fault : Fault) × (answer ≡ Err fault)
    × (fault_of error ≡ fault_in text fault)
FailsAs text (failure.Memory error) answer = Unit {0}

-- the failure of a parser that has halted
abbrev pub FailsAsHalted : {A : Type 0} → List ℕ → Halt → Parser A → Failure A → Type 0
FailsAsHalted {A} text h parser failure = (room : ℕ) (answer : Result ParserState Fault)
    → HaltsAs {A = A} h room parser answer → FailsAs text failure answer

-- the result of a function that computes a step
abbrev pub Gives : {A : Type 0} → Result (Unit {0}) Halt → Parser A → Parser A
    → Result ParserState Fault → Type 0
Gives {A} (Ok done) old new answer = answer ≡ Ok (state_of {A = A} new)
Gives {A} (Err halt) old new answer =
    HaltsAs {A = A} halt (room_of (state_of {A = A} old)) new answer

abbrev pub item_at : Span → Item
item_at span = record { token = spelled.Token.comma; start = span.start; end = span.end }

abbrev pub Opens : {A : Type 0} → Parser A → Parser A → Function → Span → Type 0
Opens {A} old new function span =
    state_of {A = A} new ≡ opened (state_of {A = A} old) function (item_at span)

-- the state without its pending predicate, and with what was written
abbrev pub settled : ParserState → Written → ParserState
settled s written = record s { pending = None; written = written }

-- the pending predicate, if there is one, is written, but not counted
abbrev pub pending_written : Option Pending → ParserState → Result ParserState Fault
pending_written None s = Ok (settled s s.written)
pending_written (Some p) s = result_map (λ leaf. settled s (with_leaf leaf s.written))
    (classified p)

-- the pending predicate is written, and nothing else changes
pub record Wrote {A : Type 0} (old new : Parser A) : Type 0 where
  pub written : pending_written (state_of {A = A} old).pending (state_of {A = A} old)
      ≡ Ok (settled (state_of {A = A} old) (written_of new.writer))
  pub one_more : length (written_of old.writer).nodes + pending_count old.pending
      ≡ length (written_of new.writer).nodes
  pub none : new.pending ≡ None
  pub functions : new.func_stack.items ≡ old.func_stack.items
  pub list : new.list ≡ old.list

abbrev pub WritesPending : {A : Type 0} → Parser A → Parser A → Result (Unit {0}) Halt → Type 0
WritesPending {A} old new (Ok done) = Wrote {A = A} old new
WritesPending {A} old new (Err halt) =
    HaltsAs {A = A} halt (node_room_of (state_of {A = A} old)) new
    (pending_written (state_of {A = A} old).pending (state_of {A = A} old))

abbrev pub parens_opened : ParserState → ℕ → ParserState
parens_opened s place = record s { stack = over_top (with_parens place) s.stack }

abbrev pub closed_at : ParserState → Span → Result ParserState Fault
closed_at s span = closed_by s (item_at span) s.stack

-- the end of a text of `len` bytes in which no value is missing
abbrev pub concluded : ParserState → ℕ → Result ParserState Fault
concluded s len = concluded_by len s s.stack

abbrev pub value_added : ParserState → List ℕ → Span → ParserState
value_added s text span = record s {
  pending = option_map
      (with_value (located_text text (span.start + 1) (span.end - 1))) s.pending;
}

-- the span of a value includes its opening quote
abbrev pub IsQuotedAt : Token → Range ℕ → Type 0
IsQuotedAt (given.Value text) span = span.start + 1 ≤ span.end
IsQuotedAt _ span = Unit {0}

abbrev pub IsQuoted : LexerToken → Type 0
IsQuoted lexed = IsQuotedAt lexed.token lexed.span

-- the result of a parser that has read a text to its end
abbrev pub Ends : {A : Type 0} → Result (Unit {0}) (Failure A) → List ℕ → Parser A
    → Result ParserState Fault → Type 0
Ends {A} (Ok done) text new answer = answer ≡ Ok (state_of {A = A} new)
Ends (Err failure) text new answer = FailsAs text failure answer

abbrev pub ReadsAll : {A : Type 0} → LexerState → Parser A → Parser A → Result (Unit {0})
    (Failure A) → Type 0
ReadsAll {A} lexer old new result =
    (items : List Item) (ending : Ending) → ItemsFrom lexer.text lexer.place items ending
    → Ends {A = A} result lexer.text new
    (answer_from None (state_of {A = A} old) lexer.text items ending)

-- a text of at most four bytes that has no fault is read without memory
abbrev pub ReadsShort : {A : Type 0} → LexerState → Parser A → Result (Unit {0}) (Failure A)
    → Type 0
ReadsShort {A} lexer old result = room_of (state_of {A = A} old) ≡ 0
    → length lexer.text ≤ 4
    → (items : List Item) (ending : Ending) → ItemsFrom lexer.text lexer.place items ending
    → IsOk (answer_from None (state_of {A = A} old) lexer.text items ending) → IsOk result
