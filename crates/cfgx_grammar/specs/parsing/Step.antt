-- The parser as a function: the state after a token or the fault at it, and the same at the end of
-- the text.
use Rattle.std.specs.Prelude.{ℕ, ◌+◌, ◌-◌, ◌==◌, Bool, true, List, [], ◌∷◌, length, Option}
use Rattle.std.specs.Prelude.{Some, None, option_map, Result, Ok, Err, if◌then◌else◌}
use Rattle.cfgx_syntax.specs.Token.{Token}
use Rattle.cfgx_syntax.specs.Terms as terms
use Rattle.cfgx_syntax.specs.Items.{Item, Ending, lexical}
use Rattle.cfgx_syntax.specs.Error.{Fault, unexpected, unopened_parens, unclosed_parens}
use Rattle.cfgx_syntax.specs.Error.{invalid_not, empty, multiple_root_predicates}
use Rattle.cfgx_grammar.specs.Classification.{Class}
use Rattle.cfgx_grammar.specs.FirstFault.{fault_between, lacks_value}
use Rattle.cfgx_grammar.specs.{FollowSet.next, FollowSet.expected, Tree.ListFunction}
use Rattle.cfgx_grammar.specs.LastPredicate.{located_text, with_value, part_of, class_of}
use Rattle.cfgx_grammar.specs.parsing.State.{Function, Pending, Builder, Open, State}

-- `Result::and_then`
abbrev pub and_then : {A B E : Type 0} → (A → Result B E) → Result A E → Result B E
and_then f (Ok a) = f a
and_then f (Err e) = Err e

-- `Result::map`
abbrev pub result_map : {A B E : Type 0} → (A → B) → Result A E → Result B E
result_map f (Ok a) = Ok (f a)
result_map f (Err e) = Err e

-- Open functions.

-- whether the function may have `n` members: `not` has one, and the others any number
abbrev pub allows_count : Function → ℕ → Bool
allows_count Function.not n = n == 1
allows_count (Function.list function) n = true

module _ {M : Type 0} where
  -- the stack with its innermost function changed
  abbrev pub over_top : (Open M → Open M) → List (Open M) → List (Open M)
  over_top f [] = []
  over_top f (top ∷ rest) = f top ∷ rest

  abbrev pub one_more : Open M → Open M
  one_more f = record f { ended_members = f.ended_members + 1 }

  -- the function with the position of its `(`
  abbrev pub with_parens : ℕ → Open M → Open M
  with_parens place f = record f { parens = Some place }

  -- the number of roots after one more member of the innermost list
  abbrev pub root_more : List (Open M) → ℕ → ℕ
  root_more [] roots = roots + 1
  root_more (top ∷ rest) roots = roots

  -- the number of members of a function that ends
  abbrev pub member_count : Open M → Option Pending → ℕ
  member_count f None = f.ended_members
  member_count f (Some p) = f.ended_members + 1

  -- the fault of a function that is open at the end of a text of `len` bytes
  abbrev pub unclosed : ℕ → Open M → Option ℕ → Fault
  unclosed len f (Some place) = fault_between unclosed_parens place len
  unclosed len f None = fault_between (unexpected terms.after_function) f.start f.end

-- Predicates.

-- the located predicate or literal, or its fault
abbrev pub located_class : {W M L : Type 0} → Builder W M L → Pending → Class → Result L Fault
located_class builder p (Class.is leaf) = Ok (builder.located p leaf)
located_class builder p (Class.faulty cause part) = Err (fault_between cause (part_of p part).start
    (part_of p part).end)

module _ {W M L : Type 0} {builder : Builder W M L} where
  -- with one more member in the innermost list
  abbrev pub with_member : State builder → State builder
  with_member s = record s { stack = over_top one_more s.stack; roots = root_more s.stack s.roots }

  -- the state after the leaf, which was pending
  abbrev pub leaf_ended : State builder → L → State builder
  leaf_ended s leaf =
      with_member (record s { pending = None; written = builder.leaf leaf s.written })

  abbrev pub ended_by : State builder → Option Pending → Result (State builder) Fault
  ended_by s None = Ok s
  ended_by s (Some p) = result_map (leaf_ended s) (located_class builder p (class_of p))

  -- the state after the pending predicate, if there is one
  abbrev pub predicate_ended : State builder → Result (State builder) Fault
  predicate_ended s = ended_by s s.pending

  -- Tokens.

  -- a function of which only the name is read
  abbrev pub new_open : State builder → Function → Item → Open M
  new_open s function name = record {
    function = function;
    start = name.start;
    end = name.end;
    parens = None;
    ended_members = 0;
    mark = builder.mark_of s.written;
  }

  abbrev pub opened : State builder → Function → Item → State builder
  opened s function name = record s {
    stack = new_open s function name ∷ s.stack;
    written = builder.function s.written;
  }

  -- the state after the innermost function, whose members have all ended
  abbrev pub function_ended : List (Open M) → State builder → State builder
  function_ended [] s = s
  function_ended (top ∷ rest) s = with_member (record s {
    stack = rest;
    written = builder.function_ended top.mark top.function top.ended_members s.written;
  })

  abbrev pub closed_by : State builder → Item → List (Open M) → Result (State builder) Fault
  closed_by s item [] = Err (fault_between unopened_parens item.start item.end)
  closed_by s item (top ∷ rest) =
      if allows_count top.function (member_count top s.pending) then result_map
      (λ t. function_ended t.stack t) (predicate_ended s)
      else Err (fault_between (invalid_not (member_count top s.pending)) top.start item.end)

  -- the state after a token that may stand there, or the fault at it
  abbrev pub apply : State builder → Item → Token → Result (State builder) Fault
  apply s item (Token.key text) = Ok (record s {
    pending = Some (record { key = located_text text item.start item.end; value = None });
  })
  apply s item (Token.value text) = Ok (record s {
    pending = option_map (with_value (located_text text (item.start + 1) (item.end - 1))) s.pending;
  })
  apply s item Token.equals = Ok s
  apply s item Token.all = Ok (opened s (Function.list ListFunction.all) item)
  apply s item Token.any = Ok (opened s (Function.list ListFunction.any) item)
  apply s item Token.not = Ok (opened s Function.not item)
  apply s item Token.open_paren =
      Ok (record s { stack = over_top (with_parens item.start) s.stack })
  apply s item Token.close_paren = closed_by s item s.stack
  apply s item Token.comma = predicate_ended s

  -- the state after a token that follows the last one, or stands at the start; or the fault at it
  abbrev pub step : Option Token → State builder → Item → Result (State builder) Fault
  step last s item = if next last item.token then apply s item item.token
      else Err (fault_between (unexpected (expected last)) item.start item.end)

  -- the last token and the state after all of these tokens, or the first fault at one of them
  abbrev pub step_each : Option Token → State builder → List Item
      → Result (Option Token × State builder) Fault
  step_each last s [] = Ok (last, s)
  step_each last s (item ∷ items) =
      and_then (λ t. step_each (Some item.token) t items) (step last s item)

  -- The end.

  -- the state at the end of a text of `len` bytes with exactly one root, or the fault
  abbrev pub one_root : ℕ → State builder → Result (State builder) Fault
  one_root len s =
      if s.roots == 0 then Err (fault_between empty 0 len)
      else if s.roots == 1 then Ok (record s { written = builder.root_ended s.written })
      else Err (fault_between multiple_root_predicates 0 len)

  abbrev pub concluded_by : ℕ → State builder → List (Open M) → Result (State builder) Fault
  concluded_by len s (top ∷ rest) = Err (unclosed len top top.parens)
  concluded_by len s [] = and_then (one_root len) (predicate_ended s)

  -- the state at the end of a text of `len` bytes, or the fault there
  abbrev pub conclude : Option Token → ℕ → State builder → Result (State builder) Fault
  conclude last len s = if lacks_value last
      then Err (fault_between (unexpected terms.value) len len)
      else concluded_by len s s.stack

  -- the state at the end of the tokens, or the fault there; `None` if white space alone is left
  abbrev pub ended_as : List ℕ → Option Fault → Option Token × State builder
      → Result (State builder) Fault
  ended_as text None (last, s) = conclude last (length text) s
  ended_as text (Some fault) _ = Err fault

  -- the result for the rest of a text's tokens, from the last token and a state on
  abbrev pub answer_from : Option Token → State builder → List ℕ → List Item → Ending
      → Result (State builder) Fault
  answer_from last s text items ending =
      and_then (ended_as text (lexical text ending)) (step_each last s items)
