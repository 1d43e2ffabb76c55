-- The predicates of a text where its nodes have them.
use Rattle.std.proofs.Common.{◌≡◌, ℕ, suc, List, [], ◌∷◌, ◌++◌, Some, length, map, refl}
use Rattle.std.proofs.Common.{sym, ap, ◌∙◌, arith, drop, length-take, subst}
use Rattle.std.proofs.lemmas.{List.length-map, Option.slice_get-map}
use Rattle.std.specs.Prelude.{◌-◌, ◌≤◌, ◌<◌, slice_range, Bool, true, false, if◌then◌else◌}
use Rattle.std.specs.List.{AllByRecursion, AllZip, slice_get}
use Rattle.cfgx_syntax.specs.Items.{Ending, Item, ItemsFrom, Stands}
use Rattle.cfgx_syntax.specs.Spans.{LiesIn}
use Rattle.cfgx_syntax.specs.Token.{Spells, Token}
use Rattle.cfgx_grammar.proofs.Alike.{Alike, AlikeEach}
use Rattle.cfgx_grammar.proofs.ListLemmas.{all_of_both, all_of_first, all_of_second}
use Rattle.cfgx_grammar.specs.Question.{Question}
use Rattle.cfgx_grammar.specs.Tree.{Tree, Trees, asked, asked_by, count, is_function, is_leaf}
use Rattle.cfgx_parser.proofs.Places.{read-places}
use Rattle.cfgx_parser.proofs.Shapes.{places-shape}
use Rattle.cfgx_parser.proofs.Spans.{whole_span-key, whole_span-value}
use Rattle.cfgx_parser.specs.Located.{HasCut, question_at, whole_span}
use Rattle.cfgx_parser.specs.ReadFrom.{AreRead, AreReadFrom, IsReadFrom}
use Rattle.cfgx_parser.specs.nodes.KeepsTree.{KeepsOneTree, NamePredicates, predicate_at}
use Rattle.cfgx_parser.specs.nodes.KeepsTree.{predicates_at, questions_at}
use Rattle.cfgx_parser.specs.nodes.Prefix.{Node, inner_node, node_at, node_map, places}
use Rattle.cfgx_parser.specs.nodes.Prefix.{predicates_in, prefix, prefix_each}
use Rattle.cfgx_parser.specs.declared.nodes.ExprNode.{ExprNode}
use Rattle.cfgx_parser.specs.declared.nodes.ExprNode.TheVariants as node
use Rattle.cfgx_parser.specs.declared.located.LocatedPredicate.{LocatedPredicate}
use Rattle.cfgx_parser.specs.declared.located.Span.{Span}
use Rattle.cfg_expr.proofs.AskedPredicates.{NamePredicates-kept, filter_map-some}
use Rattle.cfg_expr.proofs.AskedPredicates.{questions_at-kept}
use Rattle.cfg_expr.specs.Located.{AreLocated, Locates, each_in_text_order, in_text_order}
use Rattle.cfg_expr.specs.Fold.{tree_map, trees_map}

-- Nodes whose images are those of a tree are those of a tree.

split_map : {X Y : Type 0} (f : X → Y) (xs : List X) (front back : List Y)
    → map f xs ≡ front ++ back
    → (ys : List X) × (zs : List X) × (xs ≡ ys ++ zs) × (map f ys ≡ front) × (map f zs ≡ back)
split_map f xs [] back is = ([], xs, refl, refl, is)
split_map f [] (y ∷ front) back is = absurd (cc)
split_map f (x ∷ xs) (y ∷ front) back is =
    let (ys, zs, are, front_is, back_is) = split_map f xs front back (cc) in
    (x ∷ ys, zs, ap (λ l. x ∷ l) are, cc, back_is)

module _ {X Y : Type 0} (f : X → Y) where
  -- a leaf of one tree has that of the other one as its image
  abbrev IsImage : X → Y → Type 0
  IsImage x y = f x ≡ y

  abbrev FromTree : List (Node X) → Tree Y → Type 0
  FromTree nodes tree = (from : Tree X) × (prefix from ≡ nodes) × Alike IsImage from tree

  abbrev FromTrees : List (Node X) → Trees Y → Type 0
  FromTrees nodes trees = (from : Trees X) × (prefix_each from ≡ nodes)
      × AlikeEach IsImage from trees × (count from ≡ count trees)

  mutual
    from_tree : (tree : Tree Y) (nodes : List (Node X)) → map (node_map f) nodes ≡ prefix tree
        → FromTree nodes tree
    from_tree (Tree.leaf y) (Node.leaf x ∷ []) is =
        let image : f x ≡ y = cc in (Tree.leaf x, refl, Alike.leaf x y image)
    from_tree (Tree.literal truth) (Node.literal same ∷ []) is =
        let truth_is : same ≡ truth = cc in
        (Tree.literal truth, rw truth_is refl, Alike.literal truth)
    from_tree (Tree.list which trees) (Node.function func len ∷ nodes) is =
        let (from, are, alike, counts) = from_trees trees nodes (cc) in
        let long : length nodes ≡ length (prefix_each trees) =
        sym (length-map nodes (node_map f)) ∙ ap length (cc) in
        (Tree.list which from, grind arith, Alike.list which from trees alike)
    from_tree (Tree.not tree) (Node.function func len ∷ nodes) is =
        let (from, are, alike) = from_tree tree nodes (cc) in
        let long : length nodes ≡ length (prefix tree) =
        sym (length-map nodes (node_map f)) ∙ ap length (cc) in
        (Tree.not from, grind arith, Alike.not from tree alike)
    from_tree _ _ is = absurd (cc)

    from_trees : (trees : Trees Y) (nodes : List (Node X))
        → map (node_map f) nodes ≡ prefix_each trees → FromTrees nodes trees
    from_trees Trees.none [] is = (Trees.none, refl, AlikeEach.none, refl)
    from_trees Trees.none (x ∷ nodes) is = absurd (cc)
    from_trees (Trees.more tree trees) nodes is =
        let (front, back, are, front_is, back_is) =
        split_map (node_map f) nodes (prefix tree) (prefix_each trees) is in
        let (one, one_is, one_alike) = from_tree tree front front_is in
        let (others, others_are, alike, counts) = from_trees trees back back_is in (
          Trees.more one others,
          rw (one_is, others_are) (sym are),
          AlikeEach.more one tree others trees one_alike alike,
          ap suc counts,
        )

  -- then the other tree is what the map makes of the first
  mutual
    images : (from : Tree X) (tree : Tree Y) → Alike IsImage from tree → tree_map f from ≡ tree
    images _ _ (Alike.leaf x y image) = ap Tree.leaf image
    images _ _ (Alike.literal truth) = refl
    images _ _ (Alike.list function xs ys each) = ap (Tree.list function) (images_each xs ys each)
    images _ _ (Alike.not x y alike) = ap Tree.not (images x y alike)

    images_each : (from : Trees X) (trees : Trees Y) → AlikeEach IsImage from trees
        → trees_map f from ≡ trees
    images_each _ _ AlikeEach.none = refl
    images_each _ _ (AlikeEach.more x y xs ys first others) =
        cc (images x y first, images_each xs ys others)

-- The leaves among the nodes of a tree are those of the tree in the order of the text.

module _ {X : Type 0} where
  abbrev leaves : List (Node X) → List X
  leaves [] = []
  leaves (Node.leaf x ∷ nodes) = x ∷ leaves nodes
  leaves (Node.literal truth ∷ nodes) = leaves nodes
  leaves (Node.function func len ∷ nodes) = leaves nodes

  leaves-append : (nodes more : List (Node X))
      → leaves (nodes ++ more) ≡ leaves nodes ++ leaves more
  leaves-append [] more = refl
  leaves-append (Node.leaf x ∷ nodes) more = ap (λ l. x ∷ l) (leaves-append nodes more)
  leaves-append (Node.literal truth ∷ nodes) more = leaves-append nodes more
  leaves-append (Node.function func len ∷ nodes) more = leaves-append nodes more

  mutual
    leaves-prefix : (tree : Tree X) → leaves (prefix tree) ≡ in_text_order tree
    leaves-prefix (Tree.leaf x) = refl
    leaves-prefix (Tree.literal truth) = refl
    leaves-prefix (Tree.list function trees) = leaves-prefix_each trees
    leaves-prefix (Tree.not tree) = leaves-prefix tree

    leaves-prefix_each : (trees : Trees X) → leaves (prefix_each trees) ≡ each_in_text_order trees
    leaves-prefix_each Trees.none = refl
    leaves-prefix_each (Trees.more tree trees) =
        leaves-append (prefix tree) (prefix_each trees)
        ∙ cc (leaves-prefix tree, leaves-prefix_each trees)

leaves-nodes : (nodes : List ExprNode) → leaves (map inner_node nodes) ≡ predicates_in nodes
leaves-nodes [] = refl
leaves-nodes (node.Predicate predicate ∷ nodes) = ap (λ l. predicate ∷ l) (leaves-nodes nodes)
leaves-nodes (node.Fn func len ∷ nodes) = leaves-nodes nodes
leaves-nodes (node.Literal truth ∷ nodes) = leaves-nodes nodes

node_map-one : (text : List ℕ) (shown : ExprNode)
    → node_map (question_at text) (inner_node shown) ≡ node_at text shown
node_map-one text shown = grind arith

node_map-inner : (text : List ℕ) (nodes : List ExprNode)
    → map (node_map (question_at text)) (map inner_node nodes) ≡ map (node_at text) nodes
node_map-inner text [] = refl
node_map-inner text (shown ∷ nodes) =
    cc (node_map-one text shown, node_map-inner text nodes)

predicate_at-leaf : (nodes : List ExprNode) (place : ℕ) (inner : LocatedPredicate)
    → slice_get (map inner_node nodes) place ≡ Some (Node.leaf inner)
    → predicate_at nodes place ≡ Some inner
predicate_at-leaf nodes place inner is = grind (arith, slice_get-map inner_node nodes place)

listed_all : (nodes : List ExprNode) (located : Tree LocatedPredicate)
    → prefix located ≡ map inner_node nodes
    → predicates_at nodes (places 0 located) ≡ asked located
listed_all nodes located is =
    filter_map-some (predicate_at nodes) (places 0 located) (asked located)
    (read-places located (predicate_at nodes) (λ (inner : LocatedPredicate). Some inner)
    (λ place inner leaf. predicate_at-leaf nodes place inner (rw is at leaf)))

-- the whole predicate lies in the text
abbrev Lies : List ℕ → LocatedPredicate → Type 0
Lies text p = LiesIn text (whole_span p).start (whole_span p).end

listed_each : (text : List ℕ) (nodes : List ExprNode) (asks : List ℕ)
    → NamePredicates text nodes asks → AllByRecursion (Lies text) (predicates_at nodes asks)
    → AllZip (Locates text) (questions_at text nodes asks) (predicates_at nodes asks)
listed_each text nodes [] names lie = tt
listed_each text nodes (place ∷ asks) names lie =
    let here = rw names.0.stands at lie in
    rw names.0.stands (
      record { cut = names.0.cut; asks = refl; lies = here.0 },
      listed_each text nodes asks names.1 here.1,
    )

-- Predicates that are read from the tokens of the text lie in it.

module _ (text : List ℕ) where
  -- behind some of the items come the others
  items_behind : (from : ℕ) (before items : List Item)
      → ItemsFrom text from (before ++ items) Ending.blank
      → (place : ℕ) × ItemsFrom text place items Ending.blank
  items_behind from [] items are = (from, are)
  items_behind from (item ∷ before) items are = items_behind item.end before items are.1

  -- a value has its quotes
  is_long : (from : ℕ) (item : Item) (inside : List ℕ) → Stands text from item
      → item.token ≡ Token.value inside → item.start < item.end
  is_long from item inside stands is =
      let spelled = subst (Spells (slice_range text item.start item.end)) is stands.spelled in
      omega (
        arith,
        ap length spelled.0,
        length-take (item.end - item.start) (drop item.start text),
      )

  read_lies : (from : ℕ) (own after : List Item) (p : LocatedPredicate)
      → ItemsFrom text from (own ++ after) Ending.blank → IsReadFrom own p → Lies text p
  read_lies from _ after _ are (IsReadFrom.key x name question is classed) =
      subst (λ (s : Span). LiesIn text s.start s.end) (sym (whole_span-key x question)) (record {
        ordered = are.0.ordered;
        inside = are.0.inside;
      })
  read_lies from _ after _ are (IsReadFrom.value x y z name value question x_is z_is classed) =
      let y_at = are.1.0 in
      let z_at = are.1.1.0 in
      let behind : x.start ≤ z.start =
      omega (arith, are.0.ordered, y_at.comes_after, y_at.ordered, z_at.comes_after) in
      let whole = whole_span-value x z question behind (is_long y.end z value z_at z_is) in
      subst (λ (s : Span). LiesIn text s.start s.end) (sym whole) (record {
        ordered = omega (arith, behind, z_at.ordered);
        inside = z_at.inside;
      })

  read_lie : (from : ℕ) (items : List Item) (predicates : List LocatedPredicate)
      → ItemsFrom text from items Ending.blank → AreReadFrom items predicates
      → AllByRecursion (Lies text) predicates
  read_lie from items [] are read = tt
  read_lie from items (one ∷ others) are (before, own, after, split, is, rest) =
      let (start, here) = items_behind from before (own ++ after) (subst
      (λ l. ItemsFrom text from l Ending.blank) split are) in
      let (next, behind) = items_behind start own after here in
      (read_lies start own after one here is, read_lie next after others behind rest)

-- What holds of all leaves holds of them in the order of asking.

module _ {X : Type 0} (P : X → Type 0) where
  if_asked : (is_so : Bool) (xs : List X) → AllByRecursion P xs
      → AllByRecursion P (if is_so then xs else [])
  if_asked true xs all = all
  if_asked false xs all = tt

  mutual
    all_asked : (tree : Tree X) → AllByRecursion P (in_text_order tree)
        → AllByRecursion P (asked tree)
    all_asked (Tree.leaf x) all = all
    all_asked (Tree.literal truth) all = tt
    all_asked (Tree.list function trees) all =
        all_of_both P (asked_by is_function trees) (asked_by is_leaf trees)
        (all_asked_by is_function trees all) (all_asked_by is_leaf trees all)
    all_asked (Tree.not tree) all = all_asked tree all

    all_asked_by : (test : Tree X → Bool) (trees : Trees X)
        → AllByRecursion P (each_in_text_order trees) → AllByRecursion P (asked_by test trees)
    all_asked_by test Trees.none all = tt
    all_asked_by test (Trees.more tree trees) all =
        all_of_both P _ (asked_by test trees)
        (if_asked (test tree) (asked tree) (all_asked tree
        (all_of_first P (in_text_order tree) (each_in_text_order trees) all)))
        (all_asked_by test trees
        (all_of_second P (in_text_order tree) (each_in_text_order trees) all))

pub AreLocated-kept : (text : List ℕ) (nodes : List ExprNode) (asks : List ℕ)
    → KeepsOneTree text nodes asks → AreLocated text (predicates_at nodes asks)
AreLocated-kept text nodes asks kept =
    let (from, is, alike) = from_tree (question_at text) kept.one.tree
    (map inner_node nodes) (node_map-inner text nodes ∙ kept.keeps.nodes_are) in
    let asks_are : asks ≡ places 0 from =
    kept.keeps.places_are ∙ sym (places-shape from kept.one.tree alike) in
    let listed = ap (predicates_at nodes) asks_are ∙ listed_all nodes from is in
    let in_order : predicates_in nodes ≡ in_text_order from =
    sym (leaves-nodes nodes) ∙ ap leaves (sym is) ∙ leaves-prefix from in
    let lie = subst (AllByRecursion (Lies text)) in_order
    (read_lie text 0 kept.read.items (predicates_in nodes) kept.read.are_items kept.read.read) in
    record {
      one = kept.one;
      each = rw (← questions_at-kept kept.keeps)
          (listed_each text nodes asks (NamePredicates-kept kept.keeps)
          (subst (AllByRecursion (Lies text)) (sym listed) (all_asked (Lies text) from lie)));
      located = from;
      asks = images (question_at text) from kept.one.tree alike;
      listed = listed;
      read = subst (AreRead text) in_order kept.read;
    }

-- Located predicates can be cut out of the text, and ask the questions.

module _ (text : List ℕ) where
  pub cuts-located : (questions : List Question) (predicates : List LocatedPredicate)
      → AllZip (Locates text) questions predicates → AllByRecursion (HasCut text) predicates
  cuts-located [] [] each = tt
  cuts-located (question ∷ questions) (predicate ∷ predicates) each =
      (each.0.cut, cuts-located questions predicates each.1)
  cuts-located [] (predicate ∷ predicates) each = absurd each
  cuts-located (question ∷ questions) [] each = absurd each

  pub asks-located : (questions : List Question) (predicates : List LocatedPredicate)
      → AllZip (Locates text) questions predicates → map (question_at text) predicates ≡ questions
  asks-located [] [] each = refl
  asks-located (question ∷ questions) (predicate ∷ predicates) each =
      cc (each.0.asks, asks-located questions predicates each.1)
  asks-located [] (predicate ∷ predicates) each = absurd each
  asks-located (question ∷ questions) [] each = absurd each
