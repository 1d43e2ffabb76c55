-- The pass over the nodes and the places of the predicates give the polar fillings.
use Rattle.std.proofs.Common.{◌≡◌, ℕ, zero, suc, ◌+◌, Bool, true, false, not, List, [], ◌∷◌, ◌++◌}
use Rattle.std.proofs.Common.{◌<◌, arith, length, length-append, map}
use Rattle.std.proofs.Common.{replicate, Option, None, sym, refl, ap, ◌∙◌, append_assoc, map-id}
use Rattle.std.specs.List.{AllByRecursion}
use Rattle.std.proofs.lemmas.{Slice.Zip.AllZip-map, List.append-nil}
use Rattle.std.proofs.lemmas.List.{length-map, map-append, replicate-append-replicate}
use Rattle.cfgx_grammar.specs.{Question.Question, Tree.{ListFunction, Tree, Trees, asked}}
use Rattle.cfgx_grammar.{specs.Answer.HasOneTree, proofs.Answering.only_tree}
use Rattle.cfg_expr.specs.Filling.{filled_by, polar, polarities, polarities_each, three_valued}
use Rattle.cfg_expr.specs.Fold.{tree_fold}
use Rattle.cfgx_grammar.proofs.Alike.{Alike, AlikeEach, asked-alike}
use Rattle.cfg_expr.proofs.SameShapes.{polarities-shape}
use Rattle.cfgx_parser.specs.nodes.Prefix.{Node, node_at, prefix, prefix_each, places}
use Rattle.cfgx_parser.specs.declared.function.Func.TheVariants.{Not}
use Rattle.cfgx_parser.specs.nodes.Shape.{Shape, shape, shape_of}
use Rattle.cfgx_parser.proofs.Shapes.{length-shape, places-shape}
use Rattle.cfgx_parser.specs.declared.nodes.ExprNode.{ExprNode}
use Rattle.cfg_expr.specs.Deciding.{HoldsFillings, IsDecision}
use Rattle.cfg_expr.specs.declared.expr.Decision.{Decision}
use Rattle.cfg_expr.specs.declared.expr.Decision.TheVariants as decision
use Rattle.cfg_expr.specs.nodes.Parity.{ending, filled_at, pass, passed, turned}
use Rattle.cfg_expr.proofs.evaluated.{Nodes.{read-mapped, shapes-kept}, Placed.places-inside}

abbrev negated_in : Node Bool → Bool
negated_in (Node.leaf odd) = odd
negated_in (Node.literal truth) = false
negated_in (Node.function func len) = false

-- no `not` ends in front of the first entry's node where one ended, and one does where none did
abbrev turned_first : List Bool → List Bool
turned_first [] = []
turned_first (end ∷ ends) = not end ∷ ends

turned-behind : (n : ℕ) (after : List Bool)
    → ending (Shape.function Not (suc n)) (replicate n false ++ after)
    ≡ replicate n false ++ turned_first after
turned-behind zero [] = refl
turned-behind zero (end ∷ after) = refl
turned-behind (suc n) after = ap (λ l. false ∷ l) (turned-behind n after)

one-more : (n : ℕ) → 1 + n ≡ suc n
one-more n = omega arith

turned-twice : (odd end : Bool) → turned (not odd) (not end) ≡ turned odd end
turned-twice false false = refl
turned-twice false true = refl
turned-twice true false = refl
turned-twice true true = refl

-- an end more in front of a node, and the opposite parity, come to the same
pass-turned : (rest : List Shape) (after : List Bool) (odd : Bool)
    → pass rest (turned_first after) (not odd) ≡ pass rest after odd
pass-turned [] after odd = refl
pass-turned (first ∷ rest) [] odd = refl
pass-turned (first ∷ rest) (end ∷ after) odd = rw (turned-twice odd end) refl

-- the number of nodes behind that of the root
abbrev below : {X : Type 0} → Tree X → ℕ
below (Tree.leaf x) = 0
below (Tree.literal truth) = 0
below (Tree.list function trees) = length (prefix_each trees)
below (Tree.not tree) = length (prefix tree)

length-below : {X : Type 0} (tree : Tree X) → length (prefix tree) ≡ suc (below tree)
length-below (Tree.leaf x) = refl
length-below (Tree.literal truth) = refl
length-below (Tree.list function trees) = refl
length-below (Tree.not tree) = refl

module _ {X : Type 0} where
  abbrev negated : Bool → Tree X → List Bool
  negated odd tree = map negated_in (prefix (polarities odd tree))

  abbrev negated_each : Bool → Trees X → List Bool
  negated_each odd trees = map negated_in (prefix_each (polarities_each odd trees))

  -- Over the nodes of a tree, the pass finds the parities of its predicates. What ends behind the
  -- tree is as before, and so is the parity there.
  mutual
    pass-tree : (tree : Tree X) (odd end : Bool) (after : List Bool) (rest : List Shape)
        → pass (map shape_of (prefix tree) ++ rest)
        (end ∷ (replicate (below tree) false ++ after)) odd
        ≡ negated (turned odd end) tree ++ pass rest after (turned odd end)
    pass-tree (Tree.list ListFunction.all trees) odd end after rest =
        ap (λ l. false ∷ l) (pass-each trees (turned odd end) after rest)
    pass-tree (Tree.list ListFunction.any trees) odd end after rest =
        ap (λ l. false ∷ l) (pass-each trees (turned odd end) after rest)
    pass-tree (Tree.not tree) odd end after rest =
        let inner = not (turned odd end) in
        let many = length (prefix tree) in
        ap (λ l. false ∷ l) (rw (one-more many, turned-behind many after, length-below tree)
        (pass-tree tree inner false (turned_first after) rest
        ∙ ap (λ l. negated inner tree ++ l) (pass-turned rest after (turned odd end))))
    pass-tree tree odd end after rest = refl

    pass-each : (trees : Trees X) (odd : Bool) (after : List Bool) (rest : List Shape)
        → pass (map shape_of (prefix_each trees) ++ rest)
        (replicate (length (prefix_each trees)) false ++ after) odd
        ≡ negated_each odd trees ++ pass rest after odd
    pass-each Trees.none odd after rest = refl
    pass-each (Trees.more tree trees) odd after rest =
        rw (
          map-append shape_of (prefix tree),
          append_assoc (map shape_of (prefix tree)),
          length-append (prefix tree),
          ← replicate-append-replicate (length (prefix tree)) (length (prefix_each trees)) false,
          append_assoc (replicate (length (prefix tree)) false),
          length-below tree,
        )
        (rw (pass-tree tree odd false, pass-each trees odd, map-append negated_in, append_assoc)
        refl)

-- The polarities for `fill` are those for false, or their opposites if `fill` is true.

turned-not : (fill odd : Bool) → not (turned fill odd) ≡ turned fill (not odd)
turned-not fill false = refl
turned-not true true = refl
turned-not false true = refl

module _ (fill : Bool) where
  abbrev Turned : Bool → Bool → Type 0
  Turned odd polarity = polarity ≡ turned fill odd

  mutual
    turned-alike : {X : Type 0} (odd : Bool) (tree : Tree X)
        → Alike Turned (polarities odd tree) (polarities (turned fill odd) tree)
    turned-alike odd (Tree.leaf x) = Alike.leaf _ _ refl
    turned-alike odd (Tree.literal truth) = Alike.literal truth
    turned-alike odd (Tree.list function trees) =
        Alike.list function _ _ (turned_each-alike odd trees)
    turned-alike odd (Tree.not tree) = rw turned-not (Alike.not _ _ (turned-alike (not odd) tree))

    turned_each-alike : {X : Type 0} (odd : Bool) (trees : Trees X) → AlikeEach Turned
        (polarities_each odd trees) (polarities_each (turned fill odd) trees)
    turned_each-alike odd Trees.none = AlikeEach.none
    turned_each-alike odd (Trees.more tree trees) =
        AlikeEach.more _ _ _ _ (turned-alike odd tree) (turned_each-alike odd trees)

module _ (nodes : List ExprNode) (tree : Tree Question)
    (nodes_are : map shape nodes ≡ map shape_of (prefix tree)) where
  pass-nodes : passed (map shape nodes) ≡ negated false tree
  pass-nodes = rw (nodes_are, length-map (prefix tree) shape_of, length-below tree)
      (rw (
        append-nil (map shape_of (prefix tree)),
        append-nil (replicate (below tree) false),
        append-nil (negated false tree),
      ) at (pass-tree tree false false [] []))

  length-negated : length (negated false tree) ≡ length (prefix tree)
  length-negated = length-map (prefix (polarities false tree)) negated_in
      ∙ sym (length-shape tree _ (polarities-shape false tree))

  module _ (found : List Bool) (asks : List ℕ) (asks_are : asks ≡ places 0 tree)
      (is : found ≡ passed (map shape nodes)) where
    places-passed : AllByRecursion (λ place. place < length found) asks
    places-passed = rw (asks_are, is, pass-nodes, length-negated) (places-inside tree)

    polar-kept : (answers : List (Option Bool)) (fill : Bool)
        → filled_at found asks answers fill ≡ polar tree answers fill
    polar-kept answers fill =
        let parities = polarities false tree in
        let places_are : asks ≡ places 0 parities = asks_are
        ∙ places-shape tree parities (polarities-shape false tree) in
        rw (is, pass-nodes, places_are, read-mapped parities negated_in false, map-id)
        (ap (filled_by answers) (sym (AllZip-map (turned fill) (asked parities) _
        (asked-alike (Turned fill) parities _ (turned-alike fill false tree)))))

-- so it is for the nodes of a text's one tree
module _ {text : List ℕ} (nodes : List ExprNode)
    (kept : (one : HasOneTree text) × (map (node_at text) nodes ≡ prefix one.tree)) {ps : List ℕ}
    (found : (one : HasOneTree text) × (ps ≡ places 0 one.tree)) {negated : List Bool}
    (is : negated ≡ passed (map shape nodes)) where
  pub text-negated : AllByRecursion (λ place. place < length negated) ps
  text-negated = places-passed nodes found.0.tree (shapes-kept nodes kept found.0) negated ps
      found.1 is

  pub text-filled : (one : HasOneTree text) (answers : List (Option Bool)) (fill : Bool)
      → filled_at negated ps answers fill ≡ polar one.tree answers fill
  text-filled one = polar-kept nodes one.tree (shapes-kept nodes kept one) negated ps
      (found.1 ∙ ap (places 0) (only_tree one found.0.tree found.0.reads.has)) is

-- a decision is right if the value is unknown and it holds the polar fillings
pub IsDecision-unknown : {X A : Type 0} (tree : Tree X) (answers : List (Option Bool))
    (given : Decision A) {with_true with_false : List Bool}
    → tree_fold three_valued tree answers ≡ None → with_true ≡ polar tree answers true
    → with_false ≡ polar tree answers false → HoldsFillings given with_true with_false
    → IsDecision tree answers given
IsDecision-unknown tree answers (decision.Known value) unknown first second holds = absurd holds
IsDecision-unknown tree answers (decision.Unknown if_true if_false) unknown first second holds =
    (unknown, holds.0 ∙ first, holds.1 ∙ second)
