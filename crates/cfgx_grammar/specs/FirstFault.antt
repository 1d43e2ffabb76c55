-- The first fault of a stripped text that is no condition: the reason and the bytes that the crate
-- cfg-expr reports, except that functions count as roots too, and that members are counted without
-- a limit. It is the fault of the first token that has one; else the fault where no token can
-- start; else the fault at the end of the text. All counts are over the tokens before a place.
use Rattle.std.specs.Prelude.{◌≡◌, ℕ, ◌+◌, ◌==◌, ◌&&◌, ◌||◌, Bool, false, not, nat_lt, List, []}
use Rattle.std.specs.Prelude.{◌∷◌, length, take, reverse, slice_get, Option, Some, None}
use Rattle.std.specs.Prelude.{option_map, option_and_then, if◌then◌else◌}
use Rattle.std.specs.Option.{option_or}
use Rattle.cfgx_syntax.specs.Token.{Token}
use Rattle.cfgx_syntax.specs.Terms as terms
use Rattle.cfgx_syntax.specs.Items.{Item, Ending, AreItems, lexical}
use Rattle.cfgx_syntax.specs.Error.{Cause, Fault, unexpected, unopened_parens, unclosed_parens}
use Rattle.cfgx_syntax.specs.Error.{invalid_not, empty, multiple_root_predicates}
use Rattle.cfgx_grammar.specs.Classification.{Class}
use Rattle.cfgx_grammar.specs.Depth.{depth, first_below, innermost, is_closing, members, names_not}
use Rattle.cfgx_grammar.specs.Depth.{roots}
use Rattle.cfgx_grammar.specs.LastPredicate.{KeyAndValue, class_of, part_of, predicate_last}
use Rattle.cfgx_grammar.specs.FollowSet.{TokenKind, token_kind, is_kind, next, expected}

abbrev pub fault_between : Cause → ℕ → ℕ → Fault
fault_between cause start end = record { cause = cause; start = start; end = end }

-- the fault of a predicate, at the part that is at fault
abbrev pub class_fault : KeyAndValue → Class → Option Fault
class_fault p (Class.is leaf) = None
class_fault p (Class.faulty cause part) =
    Some (fault_between cause (part_of p part).start (part_of p part).end)

-- the fault of the predicate at the end of the tokens, if they end with a predicate
abbrev pub predicate_fault : List Item → Option Fault
predicate_fault prefix = option_and_then (λ p. class_fault p (class_of p))
    (predicate_last (reverse prefix))

-- whether a pending predicate ends at the token
abbrev pub ends_predicate : Token → Bool
ends_predicate token = is_closing token || is_kind TokenKind.comma (token_kind token)

abbrev pub head_token : List Item → Option Token
head_token [] = None
head_token (item ∷ before) = Some item.token

abbrev pub last_token : List Item → Option Token
last_token prefix = head_token (reverse prefix)

-- The checks at a place of a text, in their order. The first check that finds a fault counts.

abbrev pub first_of : List (Option Fault) → Option Fault
first_of [] = None
first_of (fault ∷ []) = fault
first_of (fault ∷ other ∷ others) = option_or fault (first_of (other ∷ others))

-- the fault, if the test passes
abbrev pub when : Bool → Fault → Option Fault
when is_so fault = if is_so then Some fault else None

-- the fault of a `not` without exactly one member: from its name to the end of its `)`
abbrev pub count_fault : Item → ℕ → Item → Option Fault
count_fault name count close = when (names_not name.token && not (count == 1))
    (fault_between (invalid_not count) name.start close.end)

-- the fault of a `)` after the tokens, if it closes the function at the place and that is a `not`
abbrev pub not_fault : List Item → Item → ℕ → Option Fault
not_fault prefix close function = option_and_then
    (λ name. count_fault name (members prefix function) close) (slice_get prefix function)

-- The checks at a token, with the tokens before it.

-- it may not follow the token before it
abbrev pub follow_fault : List Item → Item → Option Fault
follow_fault prefix item = when (not (next (last_token prefix) item.token))
    (fault_between (unexpected (expected (last_token prefix))) item.start item.end)

-- it is a `)` while no function is open
abbrev pub unopened_fault : List Item → Item → Option Fault
unopened_fault prefix item = when (is_closing item.token && depth prefix == 0)
    (fault_between unopened_parens item.start item.end)

-- it is a `)` that closes a `not` without exactly one member
abbrev pub closed_fault : List Item → Item → Option Fault
closed_fault prefix item = if is_closing item.token
    then option_and_then (not_fault prefix item) (innermost prefix) else None

-- it is a `)` or a `,` at which a faulty predicate ends
abbrev pub ended_fault : List Item → Item → Option Fault
ended_fault prefix item = if ends_predicate item.token then predicate_fault prefix else None

abbrev pub fault_after : List Item → Item → Option Fault
fault_after prefix item = first_of (follow_fault prefix item ∷ unopened_fault prefix item
    ∷ closed_fault prefix item ∷ ended_fault prefix item ∷ [])

-- the fault of the token at the place
abbrev pub fault_at : List Item → ℕ → Option Fault
fault_at items place = option_and_then (fault_after (take place items)) (slice_get items place)

-- the last token is `=`
abbrev pub lacks_value : Option Token → Bool
lacks_value None = false
lacks_value (Some token) = is_kind TokenKind.equals (token_kind token)

-- the fault of a function that is open at the end: from its `(` to the end, or its name if no `(`
-- follows
abbrev pub unclosed_fault : ℕ → Item → Option Item → Fault
unclosed_fault len name (Some paren) = fault_between unclosed_parens paren.start len
unclosed_fault len name None = fault_between (unexpected terms.after_function) name.start name.end

-- the fault of an open function, by the place of its name
abbrev pub open_fault : ℕ → List Item → ℕ → Option Fault
open_fault len items function = option_map
    (λ name. unclosed_fault len name (slice_get items (function + 1))) (slice_get items function)

-- The checks at the end of a text of `len` bytes, with its tokens.

-- the last one is `=`
abbrev pub value_fault : ℕ → List Item → Option Fault
value_fault len items = when (lacks_value (last_token items))
    (fault_between (unexpected terms.value) len len)

-- a function is open; the innermost one counts
abbrev pub unclosed_innermost : ℕ → List Item → Option Fault
unclosed_innermost len items = option_and_then (open_fault len items) (innermost items)

-- there is no root
abbrev pub empty_fault : ℕ → List Item → Option Fault
empty_fault len items = when (roots items == 0) (fault_between empty 0 len)

-- there is more than one
abbrev pub roots_fault : ℕ → List Item → Option Fault
roots_fault len items = when (nat_lt 1 (roots items)) (fault_between multiple_root_predicates 0 len)

abbrev pub end_fault : ℕ → List Item → Option Fault
end_fault len items = first_of (value_fault len items ∷ unclosed_innermost len items
    ∷ predicate_fault items ∷ empty_fault len items ∷ roots_fault len items ∷ [])

-- the first fault of a stripped text, by its tokens and by how it ends
abbrev pub first_fault : List ℕ → List Item → Ending → Option Fault
first_fault text items ending = option_or (first_below (fault_at items) (length items))
    (option_or (lexical text ending) (end_fault (length text) items))

-- a stripped text has this first fault
pub record HasFirstFault (text : List ℕ) (fault : Fault) : Type 0 where
  pub items : List Item
  pub ending : Ending
  pub are_items : AreItems text items ending
  pub shown : first_fault text items ending ≡ Some fault
