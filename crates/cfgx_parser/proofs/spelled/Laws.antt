-- The laws of the builder of nodes: for the items of a tree its nodes are written, whose predicates
-- are read from these items.
use Rattle.std.proofs.Common.{◌≡◌, ℕ, ◌+◌, true, false, List, [], ◌∷◌, ◌++◌, length, Option}
use Rattle.std.proofs.Common.{option_map, rules, arith, Some, None, refl, ap, subst, sym}
use Rattle.std.specs.Prelude.{◌≤◌, if◌then◌else◌, unwrap_or}
use Rattle.std.proofs.lemmas.List.{append-nil, length_push}
use Rattle.cfgx_syntax.specs.Items.{Item}
use Rattle.cfgx_grammar.{specs.Question.Leaf, specs.Question.Question, specs.Classification.Class}
use Rattle.cfgx_grammar.{specs.Classification.class, proofs.spelled.Calls, proofs.spelled.Laws}
use Rattle.cfgx_grammar.proofs.ListLemmas.{all_of_first, all_of_second}
use Rattle.cfgx_grammar.specs.Tree.{Tree, Trees, is_function, is_leaf, count}
use Rattle.cfgx_grammar.{specs.parsing.State.Function, proofs.accepted.leaf_tree}
use Rattle.cfgx_parser.specs.Located.{IsSpan, at, predicate_located, whole_span}
use Rattle.cfgx_parser.specs.ReadFrom.{IsReadFrom}
use Rattle.cfgx_parser.specs.{nodes.Node.{Written, located, with_leaf}, declared.located.Span.Span}
use Rattle.cfgx_parser.specs.nodes.Prefix.{Node, headed, prefix, prefix_each, places, places_by}
use Rattle.cfgx_parser.{specs.nodes.Prefix.with_places, proofs.spelled.WritingLemmas.length-nodes}
use Rattle.cfgx_parser.specs.nodes.WritesNodes.{IsPlaced, ArePlaced, WritesNodes}
use Rattle.cfgx_parser.specs.parsing.NodeState.{func_of, node_builder}
use Rattle.cfgx_parser.specs.declared.nodes.ExprNode.TheVariants as node
use Rattle.cfgx_parser.proofs.Spans.{whole_span-quoted, whole_span-word}
use Rattle.cfgx_parser.proofs.spelled.LocatedClasses.{NamesClass, NamesClass-class}
use Rattle.cfgx_parser.proofs.spelled.WritingLemmas.{WritesNodes-none, WritesNodes-then}
use Rattle.cfgx_parser.proofs.spelled.WritingLemmas.{WritesNodes-leaf, WritesNodes-function}

-- the places of the predicates that the tree asks with its list, and of those that it asks before
abbrev pub own : ℕ → Tree Question → List ℕ
own place tree = if is_leaf (with_places place tree) then places place tree else []

abbrev pub inner : ℕ → Tree Question → List ℕ
inner place tree = if is_function (with_places place tree) then places place tree else []

-- the tree is a call of the function with these members
record Called (function : Function) (tree : Tree Question) (trees : Trees Question) : Type 0 where
  pub prefix_is : prefix tree ≡ headed (func_of function (count trees)) (prefix_each trees)
  pub places_are : (place : ℕ) → places place tree ≡ places_by is_function (place + 1) trees
      ++ places_by is_leaf (place + 1) trees
  pub is_no_leaf : (place : ℕ) → is_leaf (with_places place tree) ≡ false
  pub is_one : (place : ℕ) → is_function (with_places place tree) ≡ true

-- the places of the one member of a `not`, as a tree and as a list
places_one : (place : ℕ) (tree : Tree Question) → let one = Trees.more tree Trees.none in
    places place tree ≡ places_by is_function place one ++ places_by is_leaf place one
places_one place tree = grind (arith, append-nil)

module _ (text : List ℕ) where
  -- what is written for a tree, and for a list, whose items stand in the text
  abbrev pub MemberWrites : List Item → Written → Written → Tree Question → Type 0
  MemberWrites items w v tree = ArePlaced text items
      → WritesNodes text items w v (prefix tree) (own (length w.nodes) tree)
      (inner (length w.nodes) tree)

  abbrev ListWrites : List Item → Written → Written → Trees Question → Type 0
  ListWrites items w v trees = ArePlaced text items
      → WritesNodes text items w v (prefix_each trees) (places_by is_leaf (length w.nodes) trees)
      (places_by is_function (length w.nodes) trees)

  leaf_writes : (items : List Item) (w : Written) (key_span : Span) (span : Option Span)
      (leaf : Leaf)
      → ((question : Question) → class (at text key_span) (option_map (at text) span)
      ≡ Class.is (Leaf.predicate question)
      → IsReadFrom items (predicate_located key_span span question))
      → IsSpan text key_span → IsSpan text (unwrap_or span key_span)
      → ((question : Question)
      → (whole_span (predicate_located key_span span question)).end ≤ length text)
      → class (at text key_span) (option_map (at text) span) ≡ Class.is leaf
      → let tree = leaf_tree leaf in
      WritesNodes text items w (with_leaf (located key_span span leaf) w) (prefix tree)
      (own (length w.nodes) tree) (inner (length w.nodes) tree)
  leaf_writes items w key_span span (Leaf.predicate question) read key_cut cut ends classed =
      let named = subst (NamesClass text key_span span) classed
      (NamesClass-class text key_span span) in
      WritesNodes-leaf text items w _ (Node.leaf question) (ap Node.leaf named)
      (key_cut, cut, ends question)
      ([], items, [], sym (append-nil items), read question classed, tt)
  leaf_writes items w key_span span (Leaf.literal truth) read key_cut cut ends classed =
      WritesNodes-leaf text items w (node.Literal truth) _ refl tt tt

  list_writes : (xs ys zs : List Item) (tree : Tree Question) (trees : Trees Question)
      (w v u : Written)
      → MemberWrites xs w v tree → ListWrites zs v u trees
      → ListWrites (xs ++ (ys ++ zs)) w u (Trees.more tree trees)
  list_writes xs ys zs tree trees w v u writes more placed =
      let first = writes (all_of_first (λ i. IsPlaced text i i.token) xs (ys ++ zs) placed) in
      let behind = all_of_second (λ i. IsPlaced text i i.token) xs (ys ++ zs) placed in
      let rest = more (all_of_second (λ i. IsPlaced text i i.token) ys zs behind) in
      WritesNodes-then ys first (rw (length-nodes first) at rest)

  call_writes : (function : Function) (tree : Tree Question) (trees : Trees Question)
      → Called function tree trees
      → Calls node_builder MemberWrites ListWrites function tree trees
  call_writes function tree trees called head opening closing members w v writes placed =
      let inside = all_of_first (λ i. IsPlaced text i i.token) members (closing ∷ [])
      placed.1.1 in
      let whole = WritesNodes-function head opening closing (func_of function (count trees))
      (writes inside) in
      grind (arith, length_push, whole)

  pub node_laws : Laws node_builder
  node_laws = record {
    MemberBuilds = MemberWrites;
    ListBuilds = ListWrites;
    key = λ x key leaf w is classed placed. let word = subst (IsPlaced text x) is placed.0 in
        leaf_writes (x ∷ []) w _ None leaf
        (λ question class_is. IsReadFrom.key x key question is (rw word.0 at class_is))
        word.1 word.1 (whole_span-word text x word.1) (rw word.0 classed);
    value = λ x y z key value leaf w x_is z_is classed placed.
        let word = subst (IsPlaced text x) x_is placed.0 in
        let (stands, within) = subst (IsPlaced text z) z_is placed.1.1.0 in
        leaf_writes (x ∷ y ∷ z ∷ []) w _ (Some _) leaf
        (λ question class_is. IsReadFrom.value x y z key value question x_is z_is
        (rw (word.0, stands.0) at class_is)) word.1 stands.1
        (whole_span-quoted text x z word.1 stands.1 within) (rw (word.0, stands.0) classed);
    none = λ w placed. WritesNodes-none text w;
    more = list_writes;
    list = λ function trees. call_writes (Function.list function) (Tree.list function trees) trees
        (search rules);
    not = λ tree. call_writes Function.not (Tree.not tree) (Trees.more tree Trees.none)
        (search (rules, append-nil, places_one));
  }

  pub laws_written : (items : List Item) (w v : Written) (tree : Tree Question)
      → node_laws.MemberBuilds items w v tree → MemberWrites items w v tree
  unfolding node_laws
  laws_written items w v tree writes = writes
