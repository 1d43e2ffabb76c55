-- The predicates that a text asks, and the text of one predicate alone.
use Rattle.std.proofs.{lemmas.Grind.common_steps, lemmas.Str.NoCharPasses-nil}
use Rattle.std.proofs.lemmas.Fmt.{decimal_is_IsNumeral}
use Rattle.std.proofs.Common.{◌≤◌, ◌≡◌, ℕ, Bool, true, false, List, [], ◌∷◌, ◌++◌, map, Some, None}
use Rattle.std.proofs.Common.{Ok, subst, ◌<◌, ◌^◌, nat_eq, nat_lt, length, drop, Option, sym, refl}
use Rattle.std.proofs.Common.{ap, ◌∙◌, arith, rules, ◌+◌, append_assoc, length-append, drop_at}
use Rattle.std.proofs.Common.{drop_of_length-le, ◌⊎◌, inl, ⊎_elim, slice_range, if◌then◌else◌}
use Rattle.std.proofs.Common.{codes, decimal, bytes_eq, append-nil}
use Rattle.std.specs.{List.AllByRecursion, List.starts_with, Str.Parse.AllDigits}
use Rattle.cfgx_syntax.specs.Token.{Token, IsKey, HasNoQuote, Spells, IsWord, in_quotes, IsWhole}
use Rattle.cfgx_syntax.specs.Items.{Item, Ending, ItemsFrom, IsBlank, Stands, AreItems}
use Rattle.cfgx_grammar.specs.Question.{Question, Leaf, TargetQuestion}
use Rattle.cfgx_grammar.specs.Tree.{Tree, Trees, is_function, is_leaf, asked, asked_by}
use Rattle.cfgx_grammar.specs.Grammar.{commas, IsMember, IsList, HasTree, leaf_tokens}
use Rattle.cfgx_grammar.specs.WellFormed.{IsWellFormed, CanBeQuoted, IsAlone}
use Rattle.cfgx_syntax.specs.Error.{Cause, invalid_integer, invalid_has_atomic}
use Rattle.cfgx_fields.specs.Endian.{endian_text, endian_named}
use Rattle.cfgx_fields.specs.HasAtomic.{IsWidth, atomic_text, atomic_named}
use Rattle.cfgx_fields.specs.{Number.read_below, declared.atomic.HasAtomic.HasAtomic}
use Rattle.cfgx_fields.specs.TextKey.{key_name}
use Rattle.cfgx_fields.specs.declared.text_key.TextKey.{TextKey}
use Rattle.cfgx_fields.specs.declared.text_key.TextKey.TheVariants as keys
use Rattle.cfgx_fields.proofs.AtomicLemmas.{endian_named-text, atomic_named-text}
use Rattle.cfgx_fields.proofs.NumberLemmas.{read_below-decimal}
use Rattle.cfgx_grammar.specs.Classification.{predicate, Class, class, bare, valued, if_read}
use Rattle.cfgx_grammar.specs.Classification.{asks_for, target_feature, Rule, by_name, key_rules}
use Rattle.cfgx_grammar.specs.Classification.{target_rules, target_class, plain}
use Rattle.cfgx_grammar.specs.Spelling.{key_and_value, spelling}
use Rattle.cfgx_grammar.proofs.{Answering.ReadsAs-has, accepted.tokens_of, Stripped.strip-tree}
use Rattle.cfgx_grammar.proofs.ListLemmas.{all_of_both, all_of_first, all_of_second}

-- The predicates that a text asks are well formed.

-- a key is a word, and a value has no quote
abbrev pub IsSpelled : Token → Type 0
IsSpelled (Token.key word) = IsKey word
IsSpelled (Token.value inside) = HasNoQuote inside
IsSpelled _ = Unit {0}

abbrev AreSpelled : List Token → Type 0
AreSpelled tokens = AllByRecursion IsSpelled tokens

spelled_items : (text : List ℕ) (from : ℕ) (items : List Item) (ending : Ending)
    → ItemsFrom text from items ending → AreSpelled (map (λ item. item.token) items)
spelled_items text from [] ending come = tt
spelled_items text from (item ∷ items) ending come =
    (grind arith, spelled_items text item.end items ending come.1)

abbrev AreWellFormed : List Question → Type 0
AreWellFormed questions = AllByRecursion IsWellFormed questions

-- a fact of both branches of an `if`
kept_if : {A : Type 0} (P : A → Type 0) (b : Bool) (x y : A) → P x → P y → P (if b then x else y)
kept_if P b x y here there = grind arith

mutual
  well_formed_member : (tokens : List Token) (tree : Tree Question) → AreSpelled tokens
      → IsMember tokens tree → AreWellFormed (asked tree)
  well_formed_member tokens (Tree.leaf question) spelled member = (grind arith, tt)
  well_formed_member tokens (Tree.literal truth) spelled member = tt
  well_formed_member tokens (Tree.list function trees) spelled (inner, is, list) =
      let all = all_of_first IsSpelled inner _ (rw is at spelled).1.1 in
      all_of_both IsWellFormed _ _ (well_formed_list is_function inner trees all list)
      (well_formed_list is_leaf inner trees all list)
  well_formed_member tokens (Tree.not tree) spelled (member, n, is, one) =
      well_formed_member member tree
      (all_of_first IsSpelled member _ (all_of_first IsSpelled _ _ (rw is at spelled).1.1)) one

  well_formed_list : (test : Tree Question → Bool) (tokens : List Token) (trees : Trees Question)
      → AreSpelled tokens → IsList tokens trees → AreWellFormed (asked_by test trees)
  well_formed_list test tokens Trees.none spelled list = tt
  well_formed_list test tokens (Trees.more tree trees) spelled (member, n, rest, is, _, one, more) =
      let all = rw is at spelled in
      let beyond = all_of_second IsSpelled member (commas n ++ rest) all in
      let here = well_formed_member member tree (all_of_first IsSpelled member _ all) one in
      all_of_both IsWellFormed _ _ (kept_if AreWellFormed (test tree) _ [] here tt)
      (well_formed_list test rest trees (all_of_second IsSpelled (commas n) rest beyond) more)

pub well_formed_tree : (text : List ℕ) (tree : Tree Question) → HasTree text tree
    → AreWellFormed (asked tree)
well_formed_tree text tree has = grind (arith, spelled_items, well_formed_member, all_of_first)

-- The spelling of a well-formed predicate is a text of this predicate alone.

-- the text of a key alone, or of a key with its value
abbrev pub text_of : List ℕ → Option (List ℕ) → List ℕ
text_of key None = key
text_of key (Some value) = key_and_value key value

-- the predicate is well formed, and its spelling is the text of that key and value
pub record IsSpelt (question : Question) : Type 0 where
  pub well_formed : IsWellFormed question
  pub spelled : spelling question ≡ text_of well_formed.key well_formed.value

-- digits have no quote
no_quote_digits : (digits : List ℕ) → AllDigits 10 digits → HasNoQuote digits
no_quote_digits [] all = refl
no_quote_digits (byte ∷ bytes) all = grind (arith, no_quote_digits bytes all.1)

no_quote_decimal : (n : ℕ) → n < 2 ^ 64 → HasNoQuote (decimal n)
no_quote_decimal n small = no_quote_digits (decimal n) (decimal_is_IsNumeral n small).0.1

-- a number that was read is below its limit
read_small : (limit n : ℕ) (text : List ℕ) → read_below limit text ≡ Some n → n < limit
unfolding read_below
read_small limit n text is = grind arith

named_small : (text : List ℕ) (atomic : HasAtomic) → atomic_named text ≡ Some atomic
    → IsWidth atomic
unfolding atomic_named
named_small text atomic is = grind (arith, read_small)

no_quote_atomic : (atomic : HasAtomic) → IsWidth atomic → HasNoQuote (atomic_text atomic)
no_quote_atomic atomic small = grind (arith, no_quote_decimal)

-- Each rule of the tables.

spelt_word : (word : List ℕ) (value : Option (List ℕ)) (question : Question) → CanBeQuoted value
    → IsWord word × (nat_lt 3 (length word) ≡ true) × (class word value ≡ predicate question)
    × (spelling question ≡ text_of word value) → IsSpelt question
spelt_word word value question quoted (is, long, says, spelled) =
    let is_key : IsKey word = grind arith in
    let well_formed : IsWellFormed question =
    record { key = word; value = value; is_key = is_key; can_be_quoted = quoted; says = says } in
    record { well_formed = well_formed; spelled = spelled }

-- a text is asked for by its key
named : (key : TextKey) (text : List ℕ) → IsWord (key_name key)
    × (nat_lt 3 (length (key_name key)) ≡ true)
    × (class (key_name key) (Some text)
    ≡ predicate (Question.target (TargetQuestion.text key text)))
unfolding class
named key text = search rules

spelt_text : (key : TextKey) (text : List ℕ) → HasNoQuote text
    → IsSpelt (Question.target (TargetQuestion.text key text))
spelt_text key text quoted = let (is, long, says) = named key text in
    spelt_word (key_name key) (Some text) _ quoted (is, long, says, refl)

module _ (key : List ℕ) (value : Option (List ℕ)) where
  -- a predicate of this class is spelt, or its spelling is that of the key and the value
  abbrev Good : Class → Type 0
  Good (Class.is (Leaf.predicate question)) =
      IsSpelt question ⊎ (spelling question ≡ text_of key value)
  Good _ = Unit {0}

  -- the goal, once each rule of a table is good
  abbrev Each : {V : Type 0} → V → List (Rule V) → Type 0 → Type 0
  Each v [] goal = goal
  Each v (first ∷ rest) goal = Good (first.read v) → Each v rest goal

  -- a table is good if each of its rules is
  good_by_name : {V : Type 0} (name : List ℕ) (v : V) (otherwise : Class) (goal : Type 0)
      → Good otherwise → (rules : List (Rule V))
      → (Good (by_name rules name v otherwise) → goal) → Each v rules goal
  good_by_name name v otherwise goal last [] whole = whole last
  good_by_name name v otherwise goal last (first ∷ rest) whole = λ good.
      good_by_name name v otherwise goal last rest (λ others. whole (kept_if Good
      (bytes_eq name first.name) (first.read v) _ good others))

  good_bare : (leaf : Leaf) → Good (Class.is leaf) → (v : Option (List ℕ)) → Good (bare leaf v)
  good_bare leaf good v = grind arith

  good_valued : (with : List ℕ → Class) (missing : List ℕ)
      → ((v : List ℕ) → HasNoQuote v → Good (with v)) → (v : Option (List ℕ)) → CanBeQuoted v
      → Good (valued with missing v)
  good_valued with missing each v quotes = grind arith

  good_feature : (v : List ℕ) → HasNoQuote v → Good (target_feature v)
  unfolding class
  good_feature [] quotes = tt
  good_feature (byte ∷ bytes) quotes = inl (spelt_word (codes "target_feature")
      (Some (byte ∷ bytes)) _ quotes ((refl, refl), refl, refl, refl))

  good_read : {X : Type 0} (ask : X → TargetQuestion) (cause : Cause) (read : Option X)
      → ((x : X) → read ≡ Some x → IsSpelt (Question.target (ask x)))
      → Good (if_read ask cause read)
  good_read ask cause read each = grind arith

  good_target : (name v : List ℕ) → HasNoQuote v → Good (target_class name v)
  unfolding class
  good_target name v q =
      let text : (asked : TextKey) → Good (asks_for asked v) =
      λ asked. inl (spelt_text asked v q) in
      let endian = good_read TargetQuestion.endian invalid_integer (endian_named v) (λ e is.
      spelt_word (codes "target_endian") (Some (endian_text e)) _ (grind arith)
      ((refl, refl), refl, rw (endian_named-text e) refl, refl)) in
      let atomic = good_read TargetQuestion.has_atomic invalid_has_atomic (atomic_named v) (λ a is.
      let small = named_small v a is in
      spelt_word (codes "target_has_atomic") (Some (atomic_text a)) _ (no_quote_atomic a small)
      ((refl, refl), refl, rw (atomic_named-text a small) refl, refl)) in
      let width = good_read TargetQuestion.pointer_width invalid_integer (read_below (2 ^ 8) v)
      (λ n is. let small = read_small (2 ^ 8) n v is in
      let fits : n < 2 ^ 64 = omega (arith, small) in
      spelt_word (codes "target_pointer_width") (Some (decimal n)) _ (no_quote_decimal n fits)
      ((refl, refl), refl, rw (read_below-decimal (2 ^ 8) n small fits) refl, refl)) in
      good_by_name name v _ _ tt target_rules (λ good. good)
      (text keys.Abi) (text keys.Arch) (text keys.Os) (text keys.Family) (text keys.Env)
      (text keys.Vendor)
      (good_feature v q) endian atomic width

  good_class : CanBeQuoted value → Good (class key value)
  unfolding class
  good_class quoted = good_by_name key value _ _ (kept_if Good
      (starts_with nat_eq key (codes "target_")) _ (plain key value)
      (good_valued _ _ (good_target (drop 7 key)) value quoted) (grind arith))
      key_rules (λ good. good)
      (good_bare (Leaf.literal true) tt value)
      (good_bare (Leaf.literal false) tt value)
      (good_bare _ (inl (spelt_text keys.Family (codes "unix") refl)) value)
      (good_bare _ (inl (spelt_text keys.Family (codes "windows") refl)) value)
      (good_bare _ (inl (spelt_word (codes "test") None _ tt (search rules))) value)
      (good_bare _ (inl (spelt_word (codes "debug_assertions") None _ tt (search rules))) value)
      (good_bare _ (inl (spelt_word (codes "proc_macro") None _ tt (search rules))) value)
      (good_valued _ _ (λ v q. inl (spelt_word (codes "feature") (Some v) _ q
      ((refl, refl), refl, refl, refl))) value quoted)
      (good_valued _ _ (λ v q. inl (spelt_text keys.Panic v q)) value quoted)

-- The text of a key, and perhaps a value, has the one tree that is their predicate.

-- A token between two parts of a text.

slice_middle : (front middle rest : List ℕ)
    → slice_range (front ++ (middle ++ rest)) (length front) (length front + length middle) ≡ middle
slice_middle front middle rest = grind (arith, common_steps)

stands_between : (text before gap bytes rest : List ℕ) (token : Token) (from start end : ℕ)
    → text ≡ before ++ (gap ++ (bytes ++ rest)) → from ≡ length before
    → start ≡ length before + length gap → end ≡ start + length bytes → IsBlank gap
    → Spells bytes token → IsWhole token rest
    → Stands text from (record { token = token; start = start; end = end })
stands_between text before gap bytes rest token from start end is begins starts ends blank spelled
    whole =
    let later : text ≡ (before ++ gap) ++ (bytes ++ rest) =
    is ∙ sym (append_assoc before gap (bytes ++ rest)) in
    let front : length (before ++ gap) ≡ start = length-append before gap ∙ sym starts in
    let long : length ((before ++ gap) ++ bytes) ≡ end =
    omega (arith, length-append (before ++ gap) bytes) in
    record {
      comes_after = omega arith;
      gap = rw (is, begins, starts, slice_middle before gap (bytes ++ rest)) blank;
      spelled = rw (later, ends, ← front, slice_middle (before ++ gap) bytes rest) spelled;
      ordered = omega arith;
      inside = omega (arith, ap length later, length-append {A = ℕ});
      whole = rw (later, ← append_assoc (before ++ gap) bytes rest, drop_at _ rest end long) whole;
    }

-- The items of the text.

abbrev item_at : Token → ℕ → ℕ → Item
item_at token start end = record { token = token; start = start; end = end }

abbrev items_of : List ℕ → Option (List ℕ) → List Item
items_of key None = item_at (Token.key key) 0 (length key) ∷ []
items_of key (Some value) = let n = length key in item_at (Token.key key) 0 n
    ∷ item_at Token.equals (n + 1) (n + 2)
    ∷ item_at (Token.value value) (n + 3) (n + 3 + length (in_quotes value)) ∷ []

space_blank : IsBlank (32 ∷ [])
unfolding lib.Utf8.encode
space_blank = (32 ∷ [], refl, (refl, tt))

-- the text has these items, which are the tokens of a leaf
items_alone : (key : List ℕ) (value : Option (List ℕ)) → IsKey key → CanBeQuoted value
    → AreItems (text_of key value) (items_of key value) Ending.blank
    × (tokens_of (items_of key value) ≡ leaf_tokens key value)
items_alone key None is_key quoted =
    let stands = stands_between key [] [] key [] (Token.key key) 0 0 (length key)
    (sym (append-nil key)) refl refl (omega arith) (NoCharPasses-nil _) (refl, is_key) refl in
    grind (arith, drop_of_length-le)
items_alone key (Some value) is_key quoted =
    let n = length key in
    let text = key_and_value key value in
    let quotes = in_quotes value in
    let front = length-append key (codes " =") in
    let key_stands = stands_between text [] [] key (codes " = " ++ quotes) (Token.key key) 0 0 n
    refl refl refl (omega arith) (NoCharPasses-nil _) (refl, is_key) refl in
    let equals_stands = stands_between text key (codes " ") (codes "=") (codes " " ++ quotes)
    Token.equals n (n + 1) (n + 2) refl refl refl (omega arith) space_blank refl refl in
    let value_stands = stands_between text (key ++ codes " =") (codes " ") quotes []
    (Token.value value) (n + 2) (n + 3) (n + 3 + length quotes) (rw append-nil (simp append_assoc))
    (omega (arith, front)) (omega (arith, front)) refl space_blank (refl, quoted) refl in
    let long : length text ≤ n + 3 + length quotes =
    omega (arith, length-append key (codes " = " ++ quotes)) in
    let past = subst IsBlank (sym (drop_of_length-le text long)) (NoCharPasses-nil _) in
    ((key_stands, (equals_stands, (value_stands, past))), refl)

-- The one tree of the spelling of a well-formed predicate is the leaf of this predicate.
pub spelling_alone : (question : Question) → IsWellFormed question
    → IsAlone (spelling question) question
spelling_alone question is =
    let good = rw is.says at (good_class is.key is.value is.can_be_quoted) in
    let s : IsSpelt question =
    ⊎_elim (λ spelt. spelt) (λ spelled. record { well_formed = is; spelled = spelled }) good in
    let r = s.well_formed in
    let (are, tokens) = items_alone r.key r.value r.is_key r.can_be_quoted in
    let has : HasTree (spelling question) (Tree.leaf question) = rw s.spelled (record {
      items = items_of r.key r.value;
      are_items = are;
      spelled = (_, 0, tokens ∙ sym (append-nil _), (r.key, r.value, refl, r.says));
    }) in
    record {
      stripped = strip-tree _ _ has;
      reads = ReadsAs-has (Ok (Tree.leaf question)) has;
    }
