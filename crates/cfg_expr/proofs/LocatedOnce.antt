-- A text has one list of located predicates. Each is read from a key that starts a predicate, and a
-- text has no more such keys than its tree has predicates, so none is passed over.
use Rattle.std.proofs.Common.{◌≡◌, ℕ, ◌+◌, ◌≤◌, Bool, true, false, cond, List, [], ◌∷◌, ◌++◌}
use Rattle.std.proofs.Common.{length, map, drop, Option, Some, None, Ok, refl, sym, ap, subst, ◌∙◌}
use Rattle.std.proofs.Common.{rules, arith, append_assoc, length-append, count_by}
use Rattle.std.proofs.lemmas.List.{length-map, map-append}
use Rattle.std.proofs.lemmas.List.Folds.{sum_by-replicate}
use Rattle.std.proofs.lemmas.List.Sums.{sum_by-append, sum_by-cons}
use Rattle.std.specs.Prelude.{◌≢◌, codes, nat_eq, if◌then◌else◌}
use Rattle.std.specs.{Str.bytes_eq, List.starts_with, List.AllByRecursion}
use Rattle.cfgx_syntax.specs.Error.{Cause}
use Rattle.cfgx_syntax.specs.Items.{AreItems, Ending, Item}
use Rattle.cfgx_syntax.specs.Token.{Token}
use Rattle.cfgx_syntax.proofs.TokenList.{ItemsFrom-same}
use Rattle.cfgx_grammar.specs.Classification.{Class, FaultyPart, Rule, bare, by_name, class}
use Rattle.cfgx_grammar.specs.Classification.{if_read, key_rules}
use Rattle.cfgx_grammar.specs.Classification.{other_class, plain, predicate, target_class}
use Rattle.cfgx_grammar.specs.Classification.{target_feature, target_key, target_rules, valued}
use Rattle.cfgx_grammar.specs.Grammar.{HasTree, IsCall, IsList, IsMember, IsTree, commas}
use Rattle.cfgx_grammar.specs.Grammar.{leaf_tokens, list_name}
use Rattle.cfgx_grammar.specs.Question.{Leaf, Question, TargetQuestion}
use Rattle.cfgx_grammar.specs.Tree.{ListFunction, Tree, Trees, asked}
use Rattle.cfgx_parser.specs.Asked.{question_with, without_texts}
use Rattle.cfgx_parser.specs.Located.{predicate_located, question_at}
use Rattle.cfgx_parser.specs.ReadFrom.{AreReadFrom, IsReadFrom, quoted_span, word_span}
use Rattle.cfgx_parser.specs.declared.asked.Asked.{Asked}
use Rattle.cfgx_parser.specs.declared.asked.Asked.TheVariants.{KeyValue}
use Rattle.cfgx_parser.specs.declared.located.LocatedPredicate.{LocatedPredicate}
use Rattle.cfg_expr.specs.Located.{AreLocated, each_in_text_order, in_text_order}
use Rattle.cfg_expr.specs.Fold.{tree_map, trees_map}

-- What a key says alone and what it says with a value.

abbrev NoLiteral : Class → Type 0
NoLiteral one = (truth : Bool) → one ≡ Class.is (Leaf.literal truth) → ⊥

-- if both are leaves they are predicates that ask different things, and the second is no literal
record Differ (alone beside : Class) : Type 0 where
  differs : (leaf : Leaf) (question : Question) → alone ≡ Class.is leaf
      → beside ≡ predicate question
      → (own : Question) × (leaf ≡ Leaf.predicate own)
      × (without_texts own ≢ without_texts question)
  literal : NoLiteral beside

differ_bare : (leaf : Leaf) (value : List ℕ) → Differ (bare leaf None) (bare leaf (Some value))
differ_bare leaf value = record {
  differs = λ own question is wrong. absurd (cc);
  literal = λ truth wrong. cc;
}

differ_valued : (says : List ℕ → Class) (missing value : List ℕ) → NoLiteral (says value)
    → Differ (valued says missing None) (valued says missing (Some value))
differ_valued says missing value never = record {
  differs = λ own question wrong is. absurd (cc);
  literal = never;
}

differ_plain : (key value : List ℕ) → Differ (plain key None) (plain key (Some value))
differ_plain key value = record {
  differs = λ leaf question is has. (
    Question.flag key,
    cc,
    λ same.
        let is_value : Question.key_value key value ≡ question = cc in
        let value_asked : KeyValue ≡ without_texts question =
        ap without_texts is_value in cc,
  );
  literal = λ truth wrong. cc;
}

by_name-no : {Value : Type 0} (rules : List (Rule Value)) (name : List ℕ) (value : Value)
    (otherwise : Class) → AllByRecursion (λ (rule : Rule Value). NoLiteral (rule.read value)) rules
    → NoLiteral otherwise → NoLiteral (by_name rules name value otherwise)
by_name-no [] name value otherwise all never = never
by_name-no (first ∷ rules) name value otherwise all never =
    elim (bytes_eq name first.name) as (λ same. NoLiteral
    (if same then first.read value else by_name rules name value otherwise)) [
      | true ↦ all.0
      | false ↦ by_name-no rules name value otherwise all.1 never
    ]

no_predicate : (question : Question) → NoLiteral (predicate question)
no_predicate question truth wrong = cc

no_fault : (cause : Cause) (part : FaultyPart) → NoLiteral (Class.faulty cause part)
no_fault cause part truth wrong = cc

no_if_read : {X : Type 0} (ask : X → TargetQuestion) (cause : Cause) (read : Option X)
    → NoLiteral (if_read ask cause read)
no_if_read ask cause None truth wrong = cc
no_if_read ask cause (Some x) truth wrong = cc

no_feature : (value : List ℕ) → NoLiteral (target_feature value)
no_feature [] truth wrong = cc
no_feature (byte ∷ bytes) truth wrong = cc

no_targets : (value : List ℕ)
    → AllByRecursion (λ (rule : Rule (List ℕ)). NoLiteral (rule.read value)) target_rules
no_targets value = search (rules, no_predicate, no_feature, no_if_read)

no_target : (name value : List ℕ) → NoLiteral (target_class name value)
no_target name value =
    by_name-no target_rules name value _ (no_targets value) (no_fault _ _)

abbrev RuleDiffers : Rule (Option (List ℕ)) → Type 0
RuleDiffers rule = (value : List ℕ) → Differ (rule.read None) (rule.read (Some value))

by_name-differ : (rules : List (Rule (Option (List ℕ)))) (name value : List ℕ)
    (alone beside : Class) → AllByRecursion RuleDiffers rules → Differ alone beside
    → Differ (by_name rules name None alone) (by_name rules name (Some value) beside)
by_name-differ [] name value alone beside all differ = differ
by_name-differ (first ∷ rules) name value alone beside all differ =
    elim (bytes_eq name first.name) as (λ same. Differ
    (if same then first.read None else by_name rules name None alone)
    (if same then first.read (Some value) else by_name rules name (Some value) beside)) [
      | true ↦ all.0 value
      | false ↦ by_name-differ rules name value alone beside all.1 differ
    ]

differ_other : (key value : List ℕ) → Differ (other_class key None) (other_class key (Some value))
differ_other key value =
    elim (starts_with nat_eq key (codes "target_")) as (λ begins. Differ
    (if begins then target_key key None else plain key None)
    (if begins then target_key key (Some value) else plain key (Some value))) [
      | true ↦ differ_valued (target_class (drop 7 key)) _ value (no_target (drop 7 key) value)
      | false ↦ differ_plain key value
    ]

key_rules-differ : AllByRecursion RuleDiffers key_rules
key_rules-differ = search (rules, differ_bare, differ_valued, no_predicate)

class-differ : (key value : List ℕ) → Differ (class key None) (class key (Some value))
unfolding class
class-differ key value =
    by_name-differ key_rules key value _ _ key_rules-differ (differ_other key value)

-- Keys that start a predicate: those that are no literal.

abbrev is_no_literal : Class → Bool
is_no_literal (Class.is (Leaf.literal truth)) = false
is_no_literal _ = true

abbrev is_start : Token → Bool
is_start (Token.key name) = is_no_literal (class name None)
is_start _ = false

abbrev starts : List Token → ℕ
starts = count_by is_start

starts-cons : (token : Token) (tokens : List Token)
    → starts (token ∷ tokens) ≡ cond (is_start token) 1 0 + starts tokens
starts-cons = sum_by-cons (λ token. cond (is_start token) 1 0)

starts-append : (these those : List Token) → starts (these ++ those) ≡ starts these + starts those
starts-append = sum_by-append (λ token. cond (is_start token) 1 0)

starts-commas : (n : ℕ) → starts (commas n) ≡ 0
starts-commas n =
    omega (arith, sum_by-replicate (λ token. cond (is_start token) 1 0) n Token.comma)

abbrev one_if : Bool → ℕ
one_if test = cond test 1 0

one_at_most : (test : Bool) → cond test 1 0 ≤ 1
one_at_most true = omega arith
one_at_most false = omega arith

starts-none : (token : Token) (tokens : List Token) → is_start token ≡ false
    → starts (token ∷ tokens) ≡ starts tokens
starts-none token tokens never =
    let none : one_if (is_start token) ≡ 0 = rw never refl in
    omega (arith, none, starts-cons token tokens)

starts-leaf : (key : List ℕ) (value : Option (List ℕ)) → starts (leaf_tokens key value) ≤ 1
starts-leaf key None =
    omega (arith, starts-cons (Token.key key) [], one_at_most (is_start (Token.key key)))
starts-leaf key (Some value) =
    let rest = Token.equals ∷ Token.value value ∷ [] in
    omega (arith, starts-cons (Token.key key) rest, one_at_most (is_start (Token.key key)))

starts-literal : (key : List ℕ) (value : Option (List ℕ)) (truth : Bool)
    → class key value ≡ Class.is (Leaf.literal truth) → starts (leaf_tokens key value) ≡ 0
starts-literal key None truth is = starts-none (Token.key key) [] (rw is refl)
starts-literal key (Some value) truth is =
    absurd ((class-differ key value).literal truth is)

starts-call : (name : Token) (tokens inner : List Token) → is_start name ≡ false
    → IsCall name tokens inner → starts tokens ≡ starts inner
starts-call name tokens inner never is =
    let after = inner ++ Token.close_paren ∷ [] in
    rw is (
    omega (
      arith,
      starts-none name (Token.open_paren ∷ after) never,
      starts-none Token.open_paren after refl,
      starts-append inner (Token.close_paren ∷ []),
      starts-none Token.close_paren [] refl,
    )
    )

list_name-starts : (function : ListFunction) → is_start (list_name function) ≡ false
list_name-starts ListFunction.all = refl
list_name-starts ListFunction.any = refl

mutual
  member-starts : (tree : Tree Question) (tokens : List Token) → IsMember tokens tree
      → starts tokens ≤ length (in_text_order tree)
  member-starts (Tree.leaf question) tokens is = rw is.2 (starts-leaf is.0 is.1)
  member-starts (Tree.literal truth) tokens is =
      rw is.2 (omega (arith, starts-literal is.0 is.1 truth is.3))
  member-starts (Tree.list function trees) tokens is =
      let call = starts-call (list_name function) tokens is.0 (list_name-starts function) is.1 in
      omega (arith, call, list-starts trees is.0 is.2)
  member-starts (Tree.not tree) tokens is =
      let call = starts-call Token.not tokens (is.0 ++ commas is.1) refl is.2 in
      omega (
        arith,
        call,
        starts-append is.0 (commas is.1),
        starts-commas is.1,
        member-starts tree is.0 is.3,
      )

  list-starts : (trees : Trees Question) (tokens : List Token) → IsList tokens trees
      → starts tokens ≤ length (each_in_text_order trees)
  list-starts Trees.none tokens is = rw is (omega arith)
  list-starts (Trees.more tree trees) tokens is = omega (
    arith,
    ap starts is.3,
    starts-append is.0 (commas is.1 ++ is.2),
    starts-append (commas is.1) is.2,
    starts-commas is.1,
    length-append (in_text_order tree) (each_in_text_order trees),
    member-starts tree is.0 is.5,
    list-starts trees is.2 is.6,
  )

tree-starts : (tree : Tree Question) (tokens : List Token) → IsTree tokens tree
    → starts tokens ≤ length (in_text_order tree)
tree-starts tree tokens is = omega (
  arith,
  ap starts is.2,
  starts-append is.0 (commas is.1),
  starts-commas is.1,
  member-starts tree is.0 is.3,
)

-- What was read from tokens begins with such a key.

abbrev tokens_of : List Item → List Token
tokens_of items = map (λ (item : Item). item.token) items

abbrev starts_of : List Item → ℕ
starts_of items = starts (tokens_of items)

abbrev Begins : List Item → Type 0
Begins [] = ⊥
Begins (item ∷ items) = is_start item.token ≡ true

starts_of-append : (these those : List Item)
    → starts_of (these ++ those) ≡ starts_of these + starts_of those
starts_of-append these those =
    ap starts (map-append (λ (item : Item). item.token) these those)
    ∙ starts-append (tokens_of these) (tokens_of those)

starts_of-begins : (items : List Item) → Begins items → 1 ≤ starts_of items
starts_of-begins [] begins = absurd begins
starts_of-begins (item ∷ items) begins =
    let one : one_if (is_start item.token) ≡ 1 = rw begins refl in
    omega (arith, one, starts-cons item.token (tokens_of items))

start_beside : (alone beside : Class) (question : Question) → Differ alone beside
    → beside ≡ predicate question → is_no_literal alone ≡ true
start_beside (Class.is (Leaf.literal truth)) beside question differ is =
    let wrong = differ.differs (Leaf.literal truth) question refl is in
    absurd (let same = wrong.1 in cc)
start_beside (Class.is (Leaf.predicate own)) beside question differ is = refl
start_beside (Class.faulty cause part) beside question differ is = refl

read-begins : (own after : List Item) (one : LocatedPredicate) → IsReadFrom own one
    → Begins (own ++ after)
read-begins _ after _ (IsReadFrom.key x name question is classed) = rw (is, classed) refl
read-begins _ after _ (IsReadFrom.value x y z name text question is z_is classed) =
    rw is (start_beside (class name None) _ question (class-differ name text) classed)

own-starts : (own : List Item) (one : LocatedPredicate) → IsReadFrom own one → 1 ≤ starts_of own
own-starts _ _ (IsReadFrom.key x name question is classed) =
    starts_of-begins (x ∷ []) (read-begins _ [] _ (IsReadFrom.key x name question is classed))
own-starts _ _ (IsReadFrom.value x y z name text question is z_is classed) =
    starts_of-begins (x ∷ y ∷ z ∷ [])
    (read-begins _ [] _ (IsReadFrom.value x y z name text question is z_is classed))

read-starts : (items : List Item) (list : List LocatedPredicate) → AreReadFrom items list
    → length list ≤ starts_of items
read-starts items [] read = omega arith
read-starts items (one ∷ others) (before, own, after, split, is, rest) = omega (
  arith,
  ap starts_of split,
  starts_of-append before (own ++ after),
  starts_of-append own after,
  own-starts own one is,
  read-starts after others rest,
)

-- Both lists begin at the first such key.
same_rest : (before rest others behind : List Item) → starts_of before ≡ 0
    → starts_of others ≡ 0 → Begins rest → Begins behind
    → before ++ rest ≡ others ++ behind → rest ≡ behind
same_rest [] rest [] behind none no_other begins begun same = same
same_rest [] rest (item ∷ others) behind none no_other begins begun same =
    let wrong = starts_of-begins (item ∷ others) (subst Begins same begins) in
    absurd (omega arith)
same_rest (item ∷ before) rest [] behind none no_other begins begun same =
    let wrong = starts_of-begins (item ∷ before) (subst Begins (sym same) begun) in
    absurd (omega arith)
same_rest (item ∷ before) rest (other ∷ others) behind none no_other begins begun same =
    same_rest before rest others behind
    (omega (arith, starts-cons item.token (tokens_of before)))
    (omega (arith, starts-cons other.token (tokens_of others))) begins begun (cc)

different_asked : (name other text : List ℕ) (question beside : Question) → name ≡ other
    → class name None ≡ predicate question → class other (Some text) ≡ predicate beside
    → without_texts question ≡ without_texts beside → ⊥
different_asked name other text question beside same alone valued_is same_asked =
    let (own, is, differ) = (class-differ other text).differs (Leaf.predicate question) beside
    (subst (λ (l : List ℕ). class l None ≡ predicate question) same alone) valued_is in
    let own_is : question ≡ own = cc in differ (ap without_texts (sym own_is) ∙ same_asked)

-- the first predicate of both, and what is behind it
same_first : (own after own_too behind : List Item) (one other : LocatedPredicate)
    → IsReadFrom own one → IsReadFrom own_too other → own ++ after ≡ own_too ++ behind
    → one.asked ≡ other.asked → (one ≡ other) × (after ≡ behind)
same_first _ after _ behind _ _ (IsReadFrom.key x name question is classed)
    (IsReadFrom.key y other asks y_is classed_too) same same_asked =
    let items : x ≡ y = cc in
    let tokens : Token.key name ≡ Token.key other =
    sym is ∙ ap (λ (i : Item). i.token) items ∙ y_is in
    let names : name ≡ other = cc in
    let classes : predicate question ≡ predicate asks =
    sym classed ∙ ap (λ (l : List ℕ). class l None) names ∙ classed_too in
    let questions : question ≡ asks = cc in (
      ap (λ (i : Item). predicate_located (word_span i) None question) items
          ∙ ap (λ (q : Question). predicate_located (word_span y) None q) questions,
      cc,
    )
same_first _ after _ behind _ _ (IsReadFrom.key x name question is classed)
    (IsReadFrom.value y v z other text asks y_is z_is classed_too) same same_asked =
    let items : x ≡ y = cc in
    let tokens : Token.key name ≡ Token.key other =
    sym is ∙ ap (λ (i : Item). i.token) items ∙ y_is in
    absurd (different_asked name other text question asks (cc) classed classed_too same_asked)
same_first _ after _ behind _ _ (IsReadFrom.value x v z name text question is z_is classed)
    (IsReadFrom.key y other asks y_is classed_too) same same_asked =
    let items : x ≡ y = cc in
    let tokens : Token.key name ≡ Token.key other =
    sym is ∙ ap (λ (i : Item). i.token) items ∙ y_is in
    absurd (different_asked other name text asks question (cc) classed_too classed (sym same_asked))
same_first _ after _ behind _ _ (IsReadFrom.value x v z name text question is z_is classed)
    (IsReadFrom.value y w t other bytes asks y_is t_is classed_too) same same_asked =
    let items : x ≡ y = cc in
    let ends : z ≡ t = cc in
    let tokens : Token.key name ≡ Token.key other =
    sym is ∙ ap (λ (i : Item). i.token) items ∙ y_is in
    let names : name ≡ other = cc in
    let values : Token.value text ≡ Token.value bytes =
    sym z_is ∙ ap (λ (i : Item). i.token) ends ∙ t_is in
    let texts : text ≡ bytes = cc in
    let classes : predicate question ≡ predicate asks = sym classed
    ∙ ap (λ (l : List ℕ). class l (Some text)) names
    ∙ ap (λ (l : List ℕ). class other (Some l)) texts ∙ classed_too in
    let questions : question ≡ asks = cc in (
      ap (λ (i : Item). predicate_located (word_span i) (Some (quoted_span z)) question) items
          ∙ ap (λ (i : Item). predicate_located (word_span y) (Some (quoted_span i)) question) ends
          ∙ ap (λ (q : Question). predicate_located (word_span y) (Some (quoted_span t)) q)
          questions,
      cc,
    )

-- what a predicate asks without its texts is what it asks with them, without them
asked-with : (key value : List ℕ) (asked : Asked)
    → without_texts (question_with key value asked) ≡ asked
asked-with key value asked = grind arith

module _ (text : List ℕ) where
  asked_same : (one other : LocatedPredicate) → question_at text one ≡ question_at text other
      → one.asked ≡ other.asked
  asked_same one other same =
      sym (asked-with _ _ one.asked) ∙ ap without_texts same ∙ asked-with _ _ other.asked

  same_lists : (items : List Item) (list others : List LocatedPredicate) → AreReadFrom items list
      → AreReadFrom items others → starts_of items ≤ length list
      → map (question_at text) list ≡ map (question_at text) others → list ≡ others
  same_lists items [] [] read read_too many same_asks = refl
  same_lists items [] (other ∷ others) read read_too many same_asks = absurd (cc)
  same_lists items (one ∷ list) [] read read_too many same_asks = absurd (cc)
  same_lists items (one ∷ list) (other ∷ others) (before, own, after, split, is, rest)
      (before_too, own_too, behind, split_too, is_too, rest_too) many same_asks =
      let tails : map (question_at text) list ≡ map (question_at text) others = cc in
      let heads = asked_same one other (cc) in
      let long : length list ≡ length others =
      sym (length-map list (question_at text)) ∙ ap length tails
      ∙ length-map others (question_at text) in
      let first_own = own-starts own one is in
      let first_own_too = own-starts own_too other is_too in
      let left = read-starts after list rest in
      let left_too = read-starts behind others rest_too in
      let counts = ap starts_of split in
      let counts_too = ap starts_of split_too in
      let parts = starts_of-append before (own ++ after) in
      let parts_too = starts_of-append before_too (own_too ++ behind) in
      let more = starts_of-append own after in
      let more_too = starts_of-append own_too behind in
      let none : starts_of before ≡ 0 = omega arith in
      let none_too : starts_of before_too ≡ 0 = omega arith in
      let all_left : starts_of after ≤ length list = omega arith in
      let same = same_rest before (own ++ after) before_too (own_too ++ behind) none none_too
      (read-begins own after one is) (read-begins own_too behind other is_too)
      (sym split ∙ split_too) in
      let (first, ends) = same_first own after own_too behind one other is is_too same heads in
      let tail = same_lists after list others rest
      (subst (λ (l : List Item). AreReadFrom l others) (sym ends) rest_too) all_left tails in
      cc

-- Trees of one shape are told by their predicates in the order of the text.

module _ {X Y : Type 0} (f : X → Y) where
  mutual
    same_tree : (one other : Tree X) → tree_map f one ≡ tree_map f other → (more behind : List X)
        → in_text_order one ++ more ≡ in_text_order other ++ behind
        → (one ≡ other) × (more ≡ behind)
    same_tree (Tree.leaf x) (Tree.leaf y) shape more behind same =
        let leaves : x ≡ y = cc in (ap Tree.leaf leaves, cc)
    same_tree (Tree.literal truth) (Tree.literal too) shape more behind same =
        let truths : truth ≡ too = cc in (ap Tree.literal truths, same)
    same_tree (Tree.list function trees) (Tree.list which others) shape more behind same =
        let functions : function ≡ which = cc in
        let (each, rest) = same_trees trees others (cc) more behind same in
        (cc (functions, each), rest)
    same_tree (Tree.not tree) (Tree.not other) shape more behind same =
        let (inner, rest) = same_tree tree other (cc) more behind same in
        (ap Tree.not inner, rest)
    same_tree _ _ shape more behind same = absurd (cc)

    same_trees : (trees others : Trees X) → trees_map f trees ≡ trees_map f others
        → (more behind : List X)
        → each_in_text_order trees ++ more ≡ each_in_text_order others ++ behind
        → (trees ≡ others) × (more ≡ behind)
    same_trees Trees.none Trees.none shape more behind same = (refl, same)
    same_trees (Trees.more tree trees) (Trees.more other others) shape more behind same =
        let joined = append_assoc (in_text_order tree) (each_in_text_order trees) more in
        let joined_too = append_assoc (in_text_order other) (each_in_text_order others) behind in
        let (first, rest) = same_tree tree other (cc) (each_in_text_order trees ++ more)
        (each_in_text_order others ++ behind) (sym joined ∙ same ∙ joined_too) in
        let (each, left) = same_trees trees others (cc) more behind rest in
        (cc (first, each), left)
    same_trees _ _ shape more behind same = absurd (cc)

  mutual
    text_order-map : (tree : Tree X) → map f (in_text_order tree) ≡ in_text_order (tree_map f tree)
    text_order-map (Tree.leaf x) = refl
    text_order-map (Tree.literal truth) = refl
    text_order-map (Tree.list function trees) = text_order-map_each trees
    text_order-map (Tree.not tree) = text_order-map tree

    text_order-map_each : (trees : Trees X)
        → map f (each_in_text_order trees) ≡ each_in_text_order (trees_map f trees)
    text_order-map_each Trees.none = refl
    text_order-map_each (Trees.more tree trees) =
        map-append f (in_text_order tree) (each_in_text_order trees)
        ∙ cc (text_order-map tree, text_order-map_each trees)

-- no more keys start a predicate than the tree has predicates
text-starts : (text : List ℕ) (tree : Tree Question) (items : List Item) → HasTree text tree
    → AreItems text items Ending.blank → starts_of items ≤ length (in_text_order tree)
text-starts text tree items has are =
    let same = ItemsFrom-same text 0 items has.items Ending.blank Ending.blank are has.are_items in
    subst (λ (l : List Item). starts_of l ≤ length (in_text_order tree)) same.0
    (tree-starts tree (tokens_of has.items) has.spelled)

pub located_once : (text : List ℕ) (list others : List LocatedPredicate) → AreLocated text list
    → AreLocated text others → list ≡ others
located_once text list others here there =
    let reads : Ok there.one.tree ≡ Ok here.one.tree =
    here.one.reads.only (Ok there.one.tree) there.one.reads.has in
    let trees : there.one.tree ≡ here.one.tree = cc in
    let same_items = ItemsFrom-same text 0 here.read.items there.read.items Ending.blank
    Ending.blank here.read.are_items there.read.are_items in
    let shapes : tree_map (question_at text) here.located
    ≡ tree_map (question_at text) there.located = here.asks ∙ sym trees ∙ sym there.asks in
    let many : length (in_text_order here.one.tree) ≡ length (in_text_order here.located) =
    ap (λ (t : Tree Question). length (in_text_order t)) (sym here.asks)
    ∙ ap length (sym (text_order-map (question_at text) here.located))
    ∙ length-map (in_text_order here.located) (question_at text) in
    let starts_are = text-starts text here.one.tree here.read.items here.one.reads.has
    here.read.are_items in
    let lists = same_lists text here.read.items (in_text_order here.located)
    (in_text_order there.located) here.read.read
    (subst (λ (l : List Item). AreReadFrom l (in_text_order there.located))
    same_items.0 there.read.read) (omega arith)
    (text_order-map (question_at text) here.located ∙ ap in_text_order shapes
    ∙ sym (text_order-map (question_at text) there.located)) in
    let located_same = same_tree (question_at text) here.located there.located shapes [] []
    (ap (λ (l : List LocatedPredicate). l ++ []) lists) in
    here.listed ∙ ap asked located_same.0 ∙ sym there.listed
