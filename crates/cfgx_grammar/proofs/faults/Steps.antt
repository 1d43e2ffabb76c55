-- If the parser finds a fault, it is the first fault of the text.
use Rattle.std.proofs.{lemmas.Grind.common_steps, Math.Seq.take-append_seam}
use Rattle.std.proofs.Common.{take, ◌≡◌, ◌⊎◌, inl, ℕ, ◌+◌, Bool, true, false, List, [], ◌∷◌}
use Rattle.std.proofs.Common.{◌++◌, length, reverse, cond, Option, Some, None, Result, Ok, Err, sym}
use Rattle.std.proofs.Common.{refl, ap, ◌∙◌, arith, suc, ◌-◌, ◌<◌, option_map, take_all}
use Rattle.std.proofs.Common.{append_assoc, count_by, option_and_then, if◌then◌else◌, lt-ltb}
use Rattle.std.{proofs.Common.{le-ltb, eq-eqb, ne_eqb, append-nil, not}, specs.Option.option_or}
use Rattle.std.proofs.lemmas.Option.{slice_get_within, slice_get_past}
use Rattle.cfgx_syntax.specs.{Token.Token, Items.Item, Items.Ending, Items.lexical}
use Rattle.cfgx_syntax.specs.Error.{Fault, invalid_not}
use Rattle.cfgx_grammar.specs.{Tree.ListFunction, Depth.members, Depth.first_below}
use Rattle.cfgx_grammar.specs.FollowSet.{TokenKind, takes, token_kind, is_kind, next}
use Rattle.cfgx_grammar.specs.Depth.{names_function, is_closing, depth, depth_at, innermost}
use Rattle.cfgx_grammar.specs.LastPredicate.{predicate_last, located_text, with_value}
use Rattle.cfgx_grammar.specs.FirstFault.{predicate_fault, head_token, last_token, lacks_value}
use Rattle.cfgx_grammar.specs.FirstFault.{not_fault, unopened_fault, closed_fault, ended_fault}
use Rattle.cfgx_grammar.specs.FirstFault.{first_of, when, fault_after, open_fault, empty_fault}
use Rattle.cfgx_grammar.specs.FirstFault.{roots_fault, unclosed_innermost, end_fault, fault_between}
use Rattle.cfgx_grammar.specs.{FirstFault.fault_at, FirstFault.first_fault, parsing.State.name_of}
use Rattle.cfgx_grammar.specs.parsing.State.{Pending, Builder, Open, State, initial, Function}
use Rattle.cfgx_grammar.specs.parsing.Step.{result_map, predicate_ended, over_top, one_more}
use Rattle.cfgx_grammar.specs.parsing.Step.{and_then, member_count, allows_count, function_ended}
use Rattle.cfgx_grammar.specs.parsing.Step.{new_open, closed_by, opened, with_parens}
use Rattle.cfgx_grammar.specs.parsing.Step.{apply, step, unclosed, concluded_by, conclude}
use Rattle.cfgx_grammar.specs.parsing.Step.{step_each, ended_as, answer_from, root_more}
use Rattle.cfgx_grammar.proofs.faults.Levels.{Levels, IsLevel, start_of, Levels-same, Levels-member}
use Rattle.cfgx_grammar.proofs.faults.Levels.{Levels-open, members_at_other}
use Rattle.cfgx_grammar.proofs.ListLemmas.{slice_get-append_seam}
use Rattle.cfgx_grammar.proofs.faults.Levels.{length_more, last_below-found, members_at_end}
use Rattle.cfgx_grammar.proofs.faults.Levels.{innermost-none, depth_at_end}

-- What the parser keeps between two tokens, by the tokens before.

-- In these definitions the list of the tokens is reversed.

-- the pending predicate
abbrev pub begun_token : Item → List Item → Token → Option Pending
begun_token item before (Token.key text) = predicate_last (item ∷ before)
begun_token item before (Token.value text) = predicate_last (item ∷ before)
begun_token item before Token.equals = predicate_last (take 1 before)
begun_token item before _ = None

abbrev pub begun_last : List Item → Option Pending
begun_last [] = None
begun_last (item ∷ before) = begun_token item before item.token

abbrev pub names_last : Option Token → Bool
names_last None = false
names_last (Some token) = names_function token

-- the number of members that have begun and not ended
abbrev pub going : Option Pending → ℕ
going None = 0
going (Some pending) = 1

abbrev pub names : List Item → ℕ
names prefix = count_by (λ item. names_function item.token) prefix

abbrev pub closings : List Item → ℕ
closings prefix = count_by (λ item. is_closing item.token) prefix

-- What may stand after the last token says which it is.

-- What a token of this kind says of those before it. Before a name no predicate is pending and the
-- last token is no function's name; before `(` stands such a name, and before `=` a key.
abbrev pub Says : TokenKind → Option Pending → Option Pending → Bool → Type 0
Says TokenKind.name begun key names = (begun ≡ None) × (names ≡ false)
Says TokenKind.opening begun key names = (begun ≡ None) × (names ≡ true)
Says TokenKind.equals begun key names = (begun ≡ key) × (names ≡ false)
Says TokenKind.value begun key names = names ≡ false
Says _ begun key names = Unit {0}

pub says : (kind : TokenKind) (back : List Item) → takes (head_token back) kind ≡ true
    → Says kind (begun_last back) (predicate_last (take 1 back)) (names_last (head_token back))
says kind back may = grind arith

-- a value ends the predicate whose key and `=` stand before it
value_says : (text : List ℕ) (start end : ℕ) (back : List Item)
    → takes (head_token back) TokenKind.value ≡ true
    → option_map (with_value (located_text text (start + 1) (end - 1))) (begun_last back)
    ≡ predicate_last (record { token = Token.value text; start = start; end = end } ∷ back)
value_says text start end back may = grind arith

-- The result of the steps meets the fault of the definition: there is no fault and the property
-- holds of the result, or the faults are the same.
abbrev pub Meets : {A : Type 0} → (A → Type 0) → Result A Fault → Option Fault → Type 0
Meets P (Ok t) fault = (fault ≡ None) × P t
Meets P (Err found) fault = fault ≡ Some found

module _ {A B : Type 0} (P : A → Type 0) (Q : B → Type 0) where
  meets_map : (f : A → B) (r : Result A Fault) (fault : Option Fault) → Meets P r fault
      → ((t : A) → P t → Q (f t)) → Meets Q (result_map f r) fault
  meets_map f r fault meets each = grind arith

  meets_then : (f : A → Result B Fault) (r : Result A Fault) (fault next : Option Fault)
      → Meets P r fault → ((t : A) → P t → Meets Q (f t) next)
      → Meets Q (and_then f r) (option_or fault next)
  meets_then f r fault next meets each = grind arith

abbrev pub EndAgrees : {A : Type 0} → Result A Fault → Option Fault → Type 0
EndAgrees r fault = Meets (λ _. Unit {0}) r fault

-- a test on both sides
meets_if : {A : Type 0} (P : A → Type 0) (b : Bool) (r other : Result A Fault)
    (fault shown : Option Fault) → (b ≡ true → Meets P r fault)
    → (b ≡ false → Meets P other shown) → Meets P (if b then r else other)
    (if b then fault else shown)
meets_if P b r other fault shown pass fail = grind arith

-- a test whose failure is the first fault
meets_when : {A : Type 0} (P : A → Type 0) (b : Bool) (r : Result A Fault) (refused : Fault)
    (fault : Option Fault) → (b ≡ true → Meets P r fault)
    → Meets P (if b then r else Err refused) (option_or (when (not b) refused) fault)
meets_when P b r refused fault pass = grind arith

-- the checks of a token that may follow the last one
abbrev pub fault_by : List Item → Item → Option Fault
fault_by prefix item =
    first_of (unopened_fault prefix item ∷ closed_fault prefix item ∷ ended_fault prefix item ∷ [])

-- the checks at the end of a text in which no function is open
abbrev pub closed_end : ℕ → List Item → Option Fault
closed_end len items =
    first_of (predicate_fault items ∷ empty_fault len items ∷ roots_fault len items ∷ [])

module _ {W M L : Type 0} {builder : Builder W M L} where
  pub record Matches (prefix : List Item) (s : State builder) : Type 0 where
    pub pending : s.pending ≡ begun_last (reverse prefix)
    pub balance : closings prefix + length s.stack ≡ names prefix
    pub levels : Levels prefix s.roots (names_last (last_token prefix)) s.stack (going s.pending)

  pub depth_is : (prefix : List Item) (s : State builder) → Matches prefix s
      → depth prefix ≡ length s.stack
  depth_is prefix s m = omega (arith, m.balance)

  -- the state in which the predicate has ended
  pub record Ended (prefix : List Item) (is_named : Bool) (s t : State builder) : Type 0 where
    pub settled : t.pending ≡ None
    pub height : length t.stack ≡ length s.stack
    pub levels : Levels prefix t.roots is_named t.stack 0

-- Each step finds the fault that the definition gives for the token and those before it. The end of
-- the text does so too.

module _ {W M L : Type 0} {builder : Builder W M L} (prefix : List Item) (s : State builder)
    (m : Matches prefix s) where
  abbrev named : Bool
  named = names_last (last_token prefix)

  -- the innermost function
  module _ (top : Open M) (rest : List (Open M)) (is : s.stack ≡ top ∷ rest) where
    levels_are : Levels prefix s.roots named (top ∷ rest) (going s.pending)
    levels_are = rw is at m.levels

    abbrev level : IsLevel prefix named (length rest) top (going s.pending)
    level = levels_are.0

    deep_is : depth prefix ≡ length rest + 1
    deep_is = depth_is prefix s m ∙ ap length is ∙ omega arith

    innermost_is : innermost prefix ≡ Some level.place
    innermost_is = last_below-found _ level.place (length prefix)
        (slice_get_within prefix level.place _ level.is_open.stands)
        (lt-ltb (depth_at prefix level.place) (depth prefix)
        (omega (arith, level.is_open.before, deep_is)))
        (λ k above below. le-ltb (depth_at prefix k) (depth prefix)
        (let more = level.is_open.inside k above (omega (arith, below)) in
        omega (arith, more, deep_is)))

    members_are : members prefix level.place ≡ member_count top s.pending
    members_are = grind arith

    -- it is closed
    close_fault_is : (close : Item) (other : Option Fault)
        → option_or (option_and_then (not_fault prefix close) (innermost prefix)) other
        ≡ (if allows_count top.function (member_count top s.pending) then other
        else Some (fault_between (invalid_not (member_count top s.pending)) top.start close.end))
    close_fault_is close other = grind (arith, innermost_is, members_are)

    -- it stays open
    open_fault_is : (len : ℕ) → option_and_then (open_fault len prefix) (innermost prefix)
        ≡ Some (unclosed len top top.parens)
    open_fault_is len = grind (arith, innermost_is)

  module _ (start end : ℕ) where
    abbrev at : Token → Item
    at token = record { token = token; start = start; end = end }

    abbrev more : Token → List Item
    more token = prefix ++ at token ∷ []

    -- the number of functions that are open after the token
    abbrev Rises : Token → ℕ → Type 0
    Rises token height = height + cond (is_closing token) 1 0
        ≡ length s.stack + cond (names_function token) 1 0

    balanced : (token : Token) (height : ℕ) → Rises token height
        → closings (more token) + height ≡ names (more token)
    balanced token height rises = grind (arith, common_steps)

    -- the state after the token
    matched : (token : Token) (t : State builder) (w : ℕ)
        → t.pending ≡ begun_token (at token) (reverse prefix) token → going t.pending ≡ w
        → Rises token (length t.stack)
        → Levels (more token) t.roots (names_function token) t.stack w → Matches (more token) t
    matched token t w pending goes rises levels = grind (arith, common_steps)

    -- a token that neither opens nor closes a function and begins no member
    stays : (token : Token) (t : State builder) (w : ℕ) → names_function token ≡ false
        → is_kind TokenKind.name (token_kind token) ≡ false → Rises token (length t.stack)
        → t.pending ≡ begun_token (at token) (reverse prefix) token → going t.pending ≡ w
        → Levels prefix t.roots false t.stack w → Matches (more token) t
    stays token t w no_name other rises pending goes levels =
        grind (arith, common_steps, Levels-same, balanced, members_at_other)

    -- the name of a function
    name_step : (function : Function) → takes (last_token prefix) TokenKind.name ≡ true
        → names_function (name_of function) ≡ true → is_closing (name_of function) ≡ false
        → is_kind TokenKind.name (token_kind (name_of function)) ≡ true
        → begun_token (at (name_of function)) (reverse prefix) (name_of function) ≡ None
        → Meets (Matches (more (name_of function))) (Ok (opened s function (at (name_of function))))
        None
    name_step function may is_name no_close begins none =
        let token = name_of function in
        let item = at token in
        let a = says TokenKind.name (reverse prefix) may in
        let pending : s.pending ≡ None = m.pending ∙ a.0 in
        let rises : Rises token (suc (length s.stack)) = rw (is_name, no_close) (omega arith) in
        let long = length_more prefix item in
        let deep : length s.stack < depth (more token) = omega (arith, balanced token _ rises) in
        let outer = Levels-member prefix item s.roots s.stack (omega (arith, deep))
        (depth_is prefix s m) begins (rw (pending, a.1) at m.levels) in
        let here : IsLevel (more token) true (length s.stack) (new_open s function item)
        (going s.pending) = record {
          place = length prefix;
          is_open = record {
            name = item;
            stands = slice_get-append_seam prefix item [];
            named = refl;
            starts = refl;
            ends = refl;
            before = depth_at_end prefix item ∙ depth_is prefix s m;
            inside = λ k beyond within. rw (take_all k (more token) (omega arith)) deep;
          };
          named_last = omega arith;
          parens = ap start_of (slice_get_past (more token) _ (omega arith));
          count_is = members_at_end (more token) (length s.stack + 1) (length prefix + 1)
              (omega arith) ∙ sym (ap going pending) ∙ omega arith;
        } in
        (refl, matched token _ _ (pending ∙ sym none) refl rises (rw is_name (here, outer)))

    -- `,` and `)`, before which a predicate ends
    ended_here : (takes (last_token prefix) TokenKind.closing ≡ true)
        ⊎ (takes (last_token prefix) TokenKind.comma ≡ true)
        → Meets (Ended prefix false s) (predicate_ended s) (predicate_fault prefix)
    ended_here which = grind arith

    function_closes : (t : State builder) (stack : List (Open M)) → t.stack ≡ stack
        → Ended prefix false s t → 0 < length s.stack
        → Matches (more Token.close_paren) (function_ended stack t)
    function_closes t [] is e some = absurd (omega (arith, e.height, ap length is, some))
    function_closes t (top ∷ rest) is e some =
        let token = Token.close_paren in
        let heights : length s.stack ≡ suc (length rest) = sym e.height ∙ ap length is in
        let rises : Rises token (length rest) = omega (arith, heights) in
        let old = rw is at e.levels in
        let kept = Levels-same prefix (at token) t.roots 1 rest
        (omega (arith, balanced token _ rises))
        (λ level from le. members_at_other prefix (at token) level from refl) old.1 in
        let levels : Levels (more token) (root_more rest t.roots) false (over_top one_more rest) 0 =
        grind arith in
        let height : length (over_top one_more rest) + 1 ≡ length s.stack + 0 = grind arith in
        matched token _ 0 e.settled (ap going e.settled) height levels

    close_step : (stack : List (Open M)) → s.stack ≡ stack
        → Meets (Ended prefix false s) (predicate_ended s) (predicate_fault prefix)
        → Meets (Matches (more Token.close_paren)) (closed_by s (at Token.close_paren) stack)
        (fault_by prefix (at Token.close_paren))
    close_step [] is ends = rw (eq-eqb (depth prefix) 0 (depth_is prefix s m ∙ ap length is)) refl
    close_step (top ∷ rest) is ends =
        let some : 0 < length s.stack = omega (arith, ap length is) in
        let inside = ne_eqb (depth prefix) 0 (λ zero. omega (arith, zero, deep_is top rest is)) in
        let leads = meets_map (Ended prefix false s) (Matches (more Token.close_paren))
        (λ t. function_ended t.stack t) (predicate_ended s) (predicate_fault prefix) ends
        (λ t e. function_closes t t.stack refl e some) in
        rw (inside, close_fault_is top rest is (at Token.close_paren) (predicate_fault prefix))
        (meets_if _ (allows_count top.function (member_count top s.pending)) _ _ _ _
        (λ room. leads) (λ full. refl))

    -- one token, if it may stand there
    token_step : (token : Token) → next (last_token prefix) token ≡ true
        → Meets (Matches (more token)) (apply s (at token) token) (fault_by prefix (at token))
    token_step (Token.key text) may = let token = Token.key text in
        let a = says TokenKind.name (reverse prefix) may in
        let levels = Levels-member prefix (at token) s.roots s.stack
        (omega (arith, balanced token (length s.stack) refl)) (depth_is prefix s m) refl
        (rw (m.pending ∙ a.0, a.1) at m.levels) in
        (refl, matched token _ 1 refl refl refl levels)
    token_step (Token.value text) may =
        let levels = rw (says TokenKind.value (reverse prefix) may) at m.levels in
        let value = located_text text (start + 1) (end - 1) in
        let pending = ap (option_map (with_value value)) m.pending
        ∙ value_says text start end (reverse prefix) may in
        let left = stays (Token.value text) _ (going s.pending) refl refl refl pending
        (grind arith) levels in (refl, left)
    token_step Token.equals may = let a = says TokenKind.equals (reverse prefix) may in
        let levels = rw a.1 at m.levels in
        (refl, stays Token.equals _ _ refl refl refl (m.pending ∙ a.0) refl levels)
    token_step Token.all may = name_step (Function.list ListFunction.all) may refl refl refl refl
    token_step Token.any may = name_step (Function.list ListFunction.any) may refl refl refl refl
    token_step Token.not may = name_step Function.not may refl refl refl refl
    token_step Token.open_paren may = let token = Token.open_paren in
        let a = says TokenKind.opening (reverse prefix) may in
        let levels = Levels-open prefix (at token) s.roots (going s.pending) s.stack
        (omega (arith, balanced token (length s.stack) refl)) refl (rw a.1 at m.levels) in
        let rises : Rises token (length (over_top (with_parens start) s.stack)) = grind arith in
        (refl, matched token _ _ (m.pending ∙ a.0) refl rises levels)
    token_step Token.close_paren may = close_step s.stack refl (ended_here (inl may))
    token_step Token.comma may = grind (arith, ended_here, stays)

    pub step_agrees : (token : Token)
        → Meets (Matches (more token)) (step (last_token prefix) s (at token))
        (fault_after prefix (at token))
    step_agrees token = meets_when _ _ _ _ _ (token_step token)

  end_stack : (len : ℕ) (stack : List (Open M)) → s.stack ≡ stack
      → lacks_value (last_token prefix) ≡ false
      → EndAgrees (concluded_by len s stack)
      (option_or (unclosed_innermost len prefix) (closed_end len prefix))
  end_stack len stack is whole = grind (arith, innermost-none, depth_is, open_fault_is)

  pub end_agrees : (len : ℕ)
      → EndAgrees (conclude (last_token prefix) len s) (end_fault len prefix)
  end_agrees len = grind (arith, end_stack)

-- The steps over all tokens of a text find its first fault, or none.

-- the first fault of some tokens after others
abbrev first_after : List Item → List Item → Option Fault
first_after prefix [] = None
first_after prefix (item ∷ items) =
    option_or (fault_after prefix item) (first_after (prefix ++ item ∷ []) items)

first_is : (items all prefix : List Item) → all ≡ prefix ++ items
    → first_below (fault_at all) (length all)
    ≡ option_or (first_below (fault_at all) (length prefix)) (first_after prefix items)
first_is [] all prefix is = rw (ap length (is ∙ append-nil prefix)) (grind arith)
first_is (item ∷ items) all prefix is =
    let rest = first_is items all _ (is ∙ sym (append_assoc prefix (item ∷ []) items)) in
    grind (arith, take-append_seam, slice_get-append_seam, length_more, rest)

last_token-more : (prefix : List Item) (item : Item)
    → last_token (prefix ++ item ∷ []) ≡ Some item.token
last_token-more prefix item = grind (arith, common_steps)

-- the last token and the state after the tokens
abbrev Read : {W M L : Type 0} {builder : Builder W M L} → List Item
    → Option Token × State builder → Type 0
Read prefix (last, s) = (last ≡ last_token prefix) × Matches prefix s

scan : {W M L : Type 0} {builder : Builder W M L} (items prefix : List Item) (s : State builder)
    → Matches prefix s → Meets (Read {builder = builder} (prefix ++ items))
    (step_each (last_token prefix) s items) (first_after prefix items)
scan [] prefix s m = (refl, rw append-nil (refl, m))
scan (item ∷ items) prefix s m = meets_then _ _ _ _ _ _
    (step_agrees prefix s m item.start item.end item.token)
    (λ t more. rw (append_assoc, last_token-more) at (scan items (prefix ++ item ∷ []) t more))

module _ {W M L : Type 0} (builder : Builder W M L) (text : List ℕ) (items : List Item)
    (ending : Ending) where
  at_end : (o : Option Fault) (read : Option Token × State builder) → Read items read
      → EndAgrees (ended_as text o read) (option_or o (end_fault (length text) items))
  at_end o (last, t) (is, m) = grind (arith, end_agrees)

  pub whole_agrees : EndAgrees (answer_from None (initial {builder = builder}) text items ending)
      (first_fault text items ending)
  whole_agrees = let start : Matches [] (initial {builder = builder}) =
      record { pending = refl; balance = refl; levels = refl } in
      rw (first_is items items [] refl) (meets_then _ _ _ _ _ _ (scan items [] initial start)
      (at_end (lexical text ending)))
