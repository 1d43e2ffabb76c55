-- Each fault that the checks find lies in its text, and the terms that it says were expected have a
-- number.
use Rattle.std.proofs.Common.{◌≡◌, ℕ, zero, suc, ◌+◌, ◌-◌, ◌<◌, ◌≤◌, Bool, true, false, List, []}
use Rattle.std.proofs.Common.{◌∷◌, ◌++◌, length, take, drop, map, reverse, codes, Option, Some}
use Rattle.std.proofs.Common.{None, sym, refl, ap, subst, arith, length-append, length-take}
use Rattle.std.proofs.Common.{option_and_then, option_map, unwrap_or, if◌then◌else◌}
use Rattle.std.specs.{Option.option_or, Prelude.slice_range, Prelude.slice_get, Prelude.IfSome}
use Rattle.std.specs.{List.AllByRecursion, List.AllZip, List.starts_with, Str.bytes_eq}
use Rattle.std.specs.Prelude.{◌^◌, nat_eq}
use Rattle.std.proofs.lemmas.List.{reverse-append}
use Rattle.cfgx_syntax.specs.Error.{Cause, Fault, invalid_has_atomic, invalid_integer, unexpected}
use Rattle.cfgx_syntax.specs.Items.{AreItems, Ending, EndsAs, Item, ItemsFrom, Stands}
use Rattle.cfgx_syntax.specs.Items.{expects_token, lexical}
use Rattle.cfgx_syntax.specs.Spans.{LiesIn}
use Rattle.cfgx_syntax.specs.Terms.{HasNumberedTerms, Terms, list_number, target_keys}
use Rattle.cfgx_syntax.specs.Token.{Token, Spells}
use Rattle.cfgx_syntax.proofs.ItemSpans.{LiesIn-lexical}
use Rattle.cfgx_fields.specs.{Endian.endian_named, HasAtomic.atomic_named, Number.read_below}
use Rattle.cfgx_fields.specs.declared.text_key.TextKey.TheVariants as key
use Rattle.cfgx_grammar.specs.Classification.{Class, FaultyPart, Rule, asks_for, bare, by_name}
use Rattle.cfgx_grammar.specs.Classification.{class, family, predicate}
use Rattle.cfgx_grammar.specs.Classification.{if_read, key_rules, other_class, plain, target_class}
use Rattle.cfgx_grammar.specs.Classification.{target_feature, target_key, target_rules, valued}
use Rattle.cfgx_grammar.specs.Depth.{first_below, innermost, members}
use Rattle.cfgx_grammar.specs.FirstFault.{HasFirstFault, class_fault, closed_fault, count_fault}
use Rattle.cfgx_grammar.specs.FirstFault.{empty_fault, end_fault, ended_fault, fault_after}
use Rattle.cfgx_grammar.specs.FirstFault.{fault_at}
use Rattle.cfgx_grammar.specs.FirstFault.{first_fault, follow_fault, last_token, not_fault}
use Rattle.cfgx_grammar.specs.FirstFault.{open_fault, predicate_fault, roots_fault, unclosed_fault}
use Rattle.cfgx_grammar.specs.FirstFault.{unclosed_innermost, unopened_fault, value_fault, when}
use Rattle.cfgx_grammar.specs.FollowSet.{expected}
use Rattle.cfgx_grammar.specs.LastPredicate.{KeyAndValue, LocatedText, class_of, part_of}
use Rattle.cfgx_grammar.specs.LastPredicate.{predicate_last, predicate_of}
use Rattle.cfgx_grammar.specs.Question.{Leaf, Question, TargetQuestion}
use Rattle.cfgx_grammar.proofs.ListLemmas.{all_of_both}

-- Facts of all items of a list.

module _ {X : Type 0} (P : X → Type 0) where
  all_at : (xs : List X) (place : ℕ) (x : X) → AllByRecursion P xs → slice_get xs place ≡ Some x
      → P x
  all_at [] place x all is = absurd (cc)
  all_at (y ∷ ys) zero x all is = let same : y ≡ x = cc in subst P same all.0
  all_at (y ∷ ys) (suc place) x all is = all_at ys place x all.1 is

  all_reversed : (xs : List X) → AllByRecursion P xs → AllByRecursion P (reverse xs)
  all_reversed [] all = tt
  all_reversed (x ∷ xs) all =
      subst (AllByRecursion P) (sym (reverse-append (x ∷ []) xs))
      (all_of_both P (reverse xs) (x ∷ []) (all_reversed xs all.1) (all.0, tt))

-- The terms that are expected have a number.

numbered_expected : (last : Option Token) → 0 < list_number (expected last)
numbered_expected None = omega arith
numbered_expected (Some Token.open_paren) = omega arith
numbered_expected (Some Token.comma) = omega arith
numbered_expected (Some (Token.key _)) = omega arith
numbered_expected (Some Token.equals) = omega arith
numbered_expected (Some (Token.value _)) = omega arith
numbered_expected (Some Token.close_paren) = omega arith
numbered_expected _ = omega arith

abbrev IsNumbered : Class → Type 0
IsNumbered (Class.is leaf) = Unit {0}
IsNumbered (Class.faulty cause part) = HasNumberedTerms cause

numbered_bare : (leaf : Leaf) (value : Option (List ℕ)) → IsNumbered (bare leaf value)
numbered_bare leaf None = tt
numbered_bare leaf (Some value) = omega arith

numbered_valued : (with : List ℕ → Class) (missing : List ℕ) (value : Option (List ℕ))
    → ((given : List ℕ) → IsNumbered (with given)) → 0 < list_number (missing ∷ [])
    → IsNumbered (valued with missing value)
numbered_valued with missing None each number = number
numbered_valued with missing (Some given) each number = each given

numbered_if : (is_so : Bool) (one other : Class) → IsNumbered one → IsNumbered other
    → IsNumbered (if is_so then one else other)
numbered_if true one other here there = here
numbered_if false one other here there = there

module _ {Value : Type 0} where
  numbered_by_name : (rules : List (Rule Value)) (name : List ℕ) (value : Value)
      (otherwise : Class)
      → AllByRecursion (λ rule. (given : Value) → IsNumbered (rule.read given)) rules
      → IsNumbered otherwise → IsNumbered (by_name rules name value otherwise)
  numbered_by_name [] name value otherwise each other = other
  numbered_by_name (first ∷ rest) name value otherwise each other =
      numbered_if (bytes_eq name first.name) _ _ (each.0 value)
      (numbered_by_name rest name value otherwise each.1 other)

numbered_feature : (value : List ℕ) → IsNumbered (target_feature value)
numbered_feature [] = omega arith
numbered_feature (byte ∷ bytes) = tt

-- the value was read, or its fault has no terms
numbered_read : {X : Type 0} (ask : X → TargetQuestion) (cause : Cause) (found : Option X)
    → HasNumberedTerms cause → IsNumbered (if_read ask cause found)
numbered_read ask cause None numbered = numbered
numbered_read ask cause (Some x) numbered = tt

-- a predicate on a text of the target
asks : (given : List ℕ) → Unit {0}
asks given = tt

-- what each rule of a table says is numbered
abbrev AreNumbered : {Value : Type 0} → List (Rule Value) → Type 0
AreNumbered {Value} table =
    AllByRecursion (λ one. (given : Value) → IsNumbered (one.read given)) table

numbered_numbers : AreNumbered (drop 7 target_rules)
numbered_numbers = (
  λ given. numbered_read TargetQuestion.endian invalid_integer (endian_named given)
      tt,
  (
    λ given. numbered_read TargetQuestion.has_atomic invalid_has_atomic (atomic_named given) tt,
    (
      λ given. numbered_read TargetQuestion.pointer_width invalid_integer
          (read_below (2 ^ 8) given) tt,
      tt,
    ),
  ),
)

numbered_target : (name value : List ℕ) → IsNumbered (target_class name value)
numbered_target name value = numbered_by_name target_rules name value
    (Class.faulty (unexpected target_keys) FaultyPart.in_key)
    (asks, (asks, (asks, (asks, (asks, (asks, (numbered_feature, numbered_numbers)))))))
    (omega arith)

numbered_other : (key : List ℕ) (value : Option (List ℕ)) → IsNumbered (other_class key value)
numbered_other key value = numbered_if (starts_with nat_eq key (codes "target_"))
    (target_key key value) (plain key value)
    (numbered_valued (target_class (drop 7 key)) (codes "= \"<target_cfg_value>\"") value
    (numbered_target (drop 7 key)) (omega arith)) (plain_is value)
  where
    plain_is : (value : Option (List ℕ)) → IsNumbered (plain key value)
    plain_is None = tt
    plain_is (Some value) = tt

numbered_values : AreNumbered (drop 7 key_rules)
numbered_values = (
  λ given. numbered_valued (λ value. predicate (Question.feature value))
      (codes "= \"<feature_name>\"") given (λ value. tt) (omega arith),
  (
    λ given. numbered_valued (asks_for key.Panic) (codes "= \"<panic_strategy>\"") given
        (λ value. tt) (omega arith),
    tt,
  ),
)

numbered_words : AreNumbered (drop 4 key_rules)
numbered_words = (
  numbered_bare (Leaf.predicate Question.test),
  (
    numbered_bare (Leaf.predicate Question.debug_assertions),
    (numbered_bare (Leaf.predicate Question.proc_macro), numbered_values),
  ),
)

numbered_rules : AreNumbered key_rules
numbered_rules = (
  numbered_bare (Leaf.literal true),
  (
    numbered_bare (Leaf.literal false),
    (
      numbered_bare (family (codes "unix")),
      (
        numbered_bare (family (codes "windows")),
        numbered_words,
      ),
    ),
  ),
)

numbered_class : (key : List ℕ) (value : Option (List ℕ)) → IsNumbered (class key value)
unfolding class
numbered_class key value =
    numbered_by_name key_rules key value (other_class key value) numbered_rules
    (numbered_other key value)

module _ (text : List ℕ) where
  -- what holds of each fault
  pub record IsSound (fault : Fault) : Type 0 where
    pub lies : LiesIn text fault.start fault.end
    pub numbered : HasNumberedTerms fault.cause

  -- the fault is sound, if there is one
  abbrev Sound : Option Fault → Type 0
  Sound found = IfSome found IsSound

  sound_or : (one other : Option Fault) → Sound one → Sound other → Sound (option_or one other)
  sound_or None other here there = there
  sound_or (Some fault) other here there = here

  sound_when : (is_so : Bool) (fault : Fault) → IsSound fault → Sound (when is_so fault)
  sound_when true fault sound = sound
  sound_when false fault sound = tt

  sound_if : (is_so : Bool) (found : Option Fault) → Sound found
      → Sound (if is_so then found else None)
  sound_if true found sound = sound
  sound_if false found sound = tt

  sound_then : {Y : Type 0} (find : Y → Option Fault) (from : Option Y)
      → ((y : Y) → from ≡ Some y → Sound (find y)) → Sound (option_and_then find from)
  sound_then find None each = tt
  sound_then find (Some y) each = each y refl

  sound_below : (find : ℕ → Option Fault) (bound : ℕ) → ((place : ℕ) → Sound (find place))
      → Sound (first_below find bound)
  sound_below find zero each = tt
  sound_below find (suc place) each =
      sound_or _ _ (sound_below find place each) (each place)

  -- Where tokens and predicates lie.

  -- the bytes between the quotes of a value
  abbrev HasInside : Token → ℕ → ℕ → Type 0
  HasInside (Token.value inside) start end = start + 1 ≤ end - 1
  HasInside _ start end = Unit {0}

  record IsPlaced (token : Token) (item : Item) : Type 0 where
    pub lies : LiesIn text item.start item.end
    pub inside : HasInside token item.start item.end

  abbrev ArePlaced : List Item → Type 0
  ArePlaced items = AllByRecursion (λ item. IsPlaced item.token item) items

  has_inside : (token : Token) (start end : ℕ) → Spells (slice_range text start end) token
      → HasInside token start end
  has_inside (Token.value inside) start end spelled = omega (
    arith,
    ap length spelled.0,
    length-append inside (codes "\""),
    length-take (end - start) (drop start text),
  )
  has_inside _ start end spelled = tt

  placed_first : (from : ℕ) (item : Item) → Stands text from item → IsPlaced item.token item
  placed_first from item stands = record {
    lies = record { ordered = stands.ordered; inside = stands.inside };
    inside = has_inside item.token item.start item.end stands.spelled;
  }

  -- what is known of an item and of those before it
  record StandsBehind (from : ℕ) (before : List Item) (item : Item) : Type 0 where
    pub behind : from ≤ item.start
    pub placed : IsPlaced item.token item
    pub are_placed : ArePlaced before
    pub precede : AllByRecursion (λ earlier. earlier.start ≤ item.end) before

  stands_behind : (from : ℕ) (items : List Item) (ending : Ending) (place : ℕ) (item : Item)
      → ItemsFrom text from items ending → slice_get items place ≡ Some item
      → StandsBehind from (take place items) item
  stands_behind from [] ending place item are is = absurd (cc)
  stands_behind from (first ∷ items) ending zero item are is =
      let same : first ≡ item = cc in
      subst (StandsBehind from []) same (record {
        behind = are.0.comes_after;
        placed = placed_first from first are.0;
        are_placed = tt;
        precede = tt;
      })
  stands_behind from (first ∷ items) ending (suc place) item are is =
      let found = stands_behind first.end items ending place item are.1 is in
      record {
        behind = omega (arith, are.0.comes_after, are.0.ordered, found.behind);
        placed = found.placed;
        are_placed = (placed_first from first are.0, found.are_placed);
        precede = (
          omega (arith, are.0.ordered, found.behind, found.placed.lies.ordered),
          found.precede,
        );
      }

  are_placed : (from : ℕ) (items : List Item) (ending : Ending) → ItemsFrom text from items ending
      → ArePlaced items
  are_placed from [] ending are = tt
  are_placed from (item ∷ items) ending are =
      (placed_first from item are.0, are_placed item.end items ending are.1)

  abbrev LiesAt : LocatedText → Type 0
  LiesAt part = LiesIn text part.start part.end

  -- the key and the value lie in the text
  record PartsLie (p : KeyAndValue) : Type 0 where
    pub key : LiesAt p.key
    pub value : IfSome p.value LiesAt

  parts_lie_by : (tokens : List Token) (items : List Item) → AllZip IsPlaced tokens items
      → IfSome (predicate_of tokens items) PartsLie
  parts_lie_by (Token.key name ∷ tokens) (item ∷ items) placed =
      record { key = placed.0.lies; value = tt }
  parts_lie_by (Token.value inside ∷ Token.equals ∷ Token.key name ∷ tokens)
      (value ∷ equals ∷ key ∷ items) placed = record {
        key = placed.1.1.0.lies;
        value = record {
          ordered = placed.0.inside;
          inside = omega (arith, placed.0.lies.inside);
        };
      }
  parts_lie_by _ _ placed = tt

  zipped : (items : List Item) → ArePlaced items
      → AllZip IsPlaced (map (λ item. item.token) items) items
  zipped [] placed = tt
  zipped (item ∷ items) placed = (placed.0, zipped items placed.1)

  parts_lie : (items : List Item) → ArePlaced items → IfSome (predicate_last items) PartsLie
  parts_lie items placed = parts_lie_by (map (λ item. item.token) items) items (zipped items placed)

  -- The faults of predicates.

  value_lies : (value : Option LocatedText) (key : LocatedText) → IfSome value LiesAt → LiesAt key
      → LiesAt (unwrap_or value key)
  value_lies None key given other = other
  value_lies (Some value) key given other = given

  sound_class : (p : KeyAndValue) (said : Class) → PartsLie p → IsNumbered said
      → Sound (class_fault p said)
  sound_class p (Class.is leaf) parts numbered = tt
  sound_class p (Class.faulty cause FaultyPart.in_key) parts numbered =
      record { lies = parts.key; numbered = numbered }
  sound_class p (Class.faulty cause FaultyPart.in_value) parts numbered = record {
    lies = value_lies p.value p.key parts.value parts.key;
    numbered = numbered;
  }

  sound_predicate : (prefix : List Item) → ArePlaced prefix → Sound (predicate_fault prefix)
  sound_predicate prefix placed =
      let lie = parts_lie (reverse prefix)
      (all_reversed (λ (item : Item). IsPlaced item.token item) prefix placed) in
      sound_then (λ p. class_fault p (class_of p)) (predicate_last (reverse prefix))
      (λ p is. sound_class p (class_of p)
      (subst (λ (found : Option KeyAndValue). IfSome found PartsLie) is lie)
      (numbered_class p.key.text (option_map (λ v. v.text) p.value)))

  -- The faults at tokens.

  sound_closed : (prefix : List Item) (item : Item)
      → AllByRecursion (λ earlier. earlier.start ≤ item.end) prefix → IsPlaced item.token item
      → Sound (closed_fault prefix item)
  sound_closed prefix item precede placed = sound_if _ _
      (sound_then (not_fault prefix item) (innermost prefix)
      (λ function among. sound_then (λ name. count_fault name (members prefix function) item)
      (slice_get prefix function)
      (λ name is. sound_when _ _ (record {
        lies = record {
          ordered = all_at (λ (earlier : Item). earlier.start ≤ item.end) prefix function name
              precede is;
          inside = placed.lies.inside;
        };
        numbered = tt;
      }))))

  sound_after : (from : ℕ) (prefix : List Item) (item : Item) → StandsBehind from prefix item
      → Sound (fault_after prefix item)
  sound_after from prefix item stands =
      sound_or (follow_fault prefix item) _
      (sound_when _ _ (record {
        lies = stands.placed.lies;
        numbered = numbered_expected (last_token prefix);
      }))
      (sound_or (unopened_fault prefix item) _
      (sound_when _ _ (record { lies = stands.placed.lies; numbered = tt }))
      (sound_or (closed_fault prefix item) (ended_fault prefix item)
      (sound_closed prefix item stands.precede stands.placed)
      (sound_if _ _ (sound_predicate prefix stands.are_placed))))

  sound_at : (items : List Item) (ending : Ending) (place : ℕ) → AreItems text items ending
      → Sound (fault_at items place)
  sound_at items ending place are =
      sound_then (fault_after (take place items)) (slice_get items place)
      (λ item is. sound_after 0 (take place items) item
      (stands_behind 0 items ending place item are is))

  -- The faults at the end.

  ends : (from : ℕ) (items : List Item) (ending : Ending) → ItemsFrom text from items ending
      → (place : ℕ) × EndsAs text place ending
  ends from [] ending are = (from, are)
  ends from (item ∷ items) ending are = ends item.end items ending are.1

  sound_lexical : (place : ℕ) (ending : Ending) → EndsAs text place ending
      → Sound (lexical text ending)
  sound_lexical place Ending.blank at = tt
  sound_lexical place (Ending.no_token stuck) at = record {
    lies = LiesIn-lexical text place (Ending.no_token stuck)
        (record { cause = expects_token; start = stuck; end = stuck + 1 }) at refl;
    numbered = omega arith;
  }
  sound_lexical place (Ending.unclosed_quotes quote) at = record {
    lies = LiesIn-lexical text place (Ending.unclosed_quotes quote)
        (record { cause = Cause.unclosed_quotes; start = quote; end = length text }) at refl;
    numbered = tt;
  }

  sound_unclosed : (items : List Item) (name : Item) (paren : Option Item)
      → IsPlaced name.token name → IfSome paren (λ item. IsPlaced item.token item)
      → IsSound (unclosed_fault (length text) name paren)
  sound_unclosed items name None placed given =
      record { lies = placed.lies; numbered = omega arith }
  sound_unclosed items name (Some paren) placed given = record {
    lies = record {
      ordered = omega (arith, given.lies.ordered, given.lies.inside);
      inside = omega arith;
    };
    numbered = tt;
  }

  if_at : (items : List Item) (place : ℕ) → ArePlaced items
      → IfSome (slice_get items place) (λ item. IsPlaced item.token item)
  if_at [] place placed = tt
  if_at (item ∷ items) zero placed = placed.0
  if_at (item ∷ items) (suc place) placed = if_at items place placed.1

  sound_open : (items : List Item) (function : ℕ) (name : Option Item)
      → IfSome name (λ item. IsPlaced item.token item) → ArePlaced items
      → Sound (option_map (λ item. unclosed_fault (length text) item
      (slice_get items (function + 1))) name)
  sound_open items function None placed are = tt
  sound_open items function (Some name) placed are =
      sound_unclosed items name (slice_get items (function + 1)) placed
      (if_at items (function + 1) are)

  -- a fault of the whole text or at its end
  whole : (start : ℕ) → start ≤ length text → LiesIn text start (length text)
  whole start below = record { ordered = below; inside = omega arith }

  sound_end : (items : List Item) → ArePlaced items → Sound (end_fault (length text) items)
  sound_end items placed =
      sound_or (value_fault (length text) items) _
      (sound_when _ _
      (record { lies = whole (length text) (omega arith); numbered = omega arith }))
      (sound_or (unclosed_innermost (length text) items) _
      (sound_then (open_fault (length text) items) (innermost items)
      (λ function among. sound_open items function (slice_get items function)
      (if_at items function placed) placed))
      (sound_or (predicate_fault items) _ (sound_predicate items placed)
      (sound_or (empty_fault (length text) items) (roots_fault (length text) items)
      (sound_when _ _ (record { lies = whole 0 (omega arith); numbered = tt }))
      (sound_when _ _ (record { lies = whole 0 (omega arith); numbered = tt })))))

  sound_first : (items : List Item) (ending : Ending) → AreItems text items ending
      → Sound (first_fault text items ending)
  sound_first items ending are =
      let (place, at) = ends 0 items ending are in
      sound_or (first_below (fault_at items) (length items)) _
      (sound_below (fault_at items) (length items) (λ k. sound_at items ending k are))
      (sound_or (lexical text ending) (end_fault (length text) items)
      (sound_lexical place ending at) (sound_end items (are_placed 0 items ending are)))

-- the first fault of a text is sound
pub IsSound-first : (text : List ℕ) (fault : Fault) → HasFirstFault text fault
    → IsSound text fault
IsSound-first text fault has =
    subst (λ (found : Option Fault). IfSome found (IsSound text)) has.shown
    (sound_first text has.items has.ending has.are_items)
