-- Trees of one shape have the same functions and literals as nodes, and their predicates at the
-- same places.
use Rattle.std.proofs.Common.{◌≡◌, ℕ, suc, ◌+◌, List, length, map, refl, ap}
use Rattle.std.proofs.lemmas.List.{map-append, length-map}
use Rattle.cfgx_grammar.{specs.Tree.{Tree, Trees, asked, count}, proofs.Alike.{Alike, AlikeEach}}
use Rattle.cfgx_parser.specs.nodes.{Prefix.{Node, prefix, prefix_each, places}, Shape.shape_of}
use Rattle.cfgx_parser.specs.nodes.Prefix.{with_places, with_places_each}

length-same : {X Y : Type 0} (xs : List (Node X)) (ys : List (Node Y))
    → map shape_of xs ≡ map shape_of ys → length xs ≡ length ys
length-same xs ys same = rw (← length-map xs shape_of, same) (length-map ys shape_of)

abbrev SameNodes : {X Y : Type 0} → Tree X → Tree Y → Type 0
SameNodes x y = (map shape_of (prefix x) ≡ map shape_of (prefix y))
    × ((place : ℕ) → with_places place x ≡ with_places place y)

abbrev SameMembers : {X Y : Type 0} → Trees X → Trees Y → Type 0
SameMembers xs ys = (count xs ≡ count ys)
    × (map shape_of (prefix_each xs) ≡ map shape_of (prefix_each ys))
    × ((place : ℕ) → with_places_each place xs ≡ with_places_each place ys)

module _ {X Y : Type 0} {R : X → Y → Type 0} where
  mutual
    same_nodes : (x : Tree X) (y : Tree Y) → Alike R x y → SameNodes x y
    same_nodes _ _ (Alike.leaf x y related) = (refl, λ place. refl)
    same_nodes _ _ (Alike.literal truth) = (refl, λ place. refl)
    same_nodes _ _ (Alike.list function xs ys each) =
        let (counts, shapes, places) = same_members xs ys each in
        let long = length-same (prefix_each xs) (prefix_each ys) shapes in
        (rw (counts, shapes, long) refl, λ place. ap (Tree.list function) (places (place + 1)))
    same_nodes _ _ (Alike.not x y alike) =
        let (shapes, places) = same_nodes x y alike in
        let long = length-same (prefix x) (prefix y) shapes in
        (rw (shapes, long) refl, λ place. ap Tree.not (places (place + 1)))

    same_members : (xs : Trees X) (ys : Trees Y) → AlikeEach R xs ys → SameMembers xs ys
    same_members _ _ AlikeEach.none = (refl, refl, λ place. refl)
    same_members _ _ (AlikeEach.more x y xs ys first rest) =
        let (shapes, places) = same_nodes x y first in
        let (counts, others, all_places) = same_members xs ys rest in
        let long = length-same (prefix x) (prefix y) shapes in
        let beyond = length (prefix y) in (
          ap suc counts,
          simp (map-append, shapes, others),
          λ n. rw (places n, long, all_places (n + beyond)) refl,
        )

  pub length-shape : (x : Tree X) (y : Tree Y) → Alike R x y
      → length (prefix x) ≡ length (prefix y)
  length-shape x y same = length-same (prefix x) (prefix y) (same_nodes x y same).0

  pub shapes-shape : (x : Tree X) (y : Tree Y) → Alike R x y
      → map shape_of (prefix x) ≡ map shape_of (prefix y)
  shapes-shape x y same = (same_nodes x y same).0

  pub places-shape : (x : Tree X) (y : Tree Y) → Alike R x y → places 0 x ≡ places 0 y
  places-shape x y same = ap asked ((same_nodes x y same).1 0)
