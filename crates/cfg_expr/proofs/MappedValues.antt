-- A map between two logics takes the value over answers to the value over the mapped answers.
use Rattle.std.proofs.Common.{arith, ◌≡◌, ℕ, ◌<◌, List, [], ◌∷◌, map, refl, bit_and}
use Rattle.std.{specs.List.{AllByRecursion, AllZip}, proofs.lemmas.Bool.Decides.Decides-eqb}
use Rattle.cfgx_syntax.{specs.Kleene.{Planes, IsDisjoint, lane}, proofs.LaneLemmas.EachLane-bottom}
use Rattle.cfgx_syntax.proofs.LaneLemmas.{AreDisjoint-and, AreDisjoint-or, AreDisjoint-not}
use Rattle.cfgx_syntax.proofs.LaneLemmas.{EachLane-and, EachLane-or, EachLane-not, EachLane-top}
use Rattle.cfgx_grammar.specs.Tree.{Tree}
use Rattle.cfg_expr.specs.Fold.{Operations, tree_fold}
use Rattle.cfg_expr.specs.Filling.{three_valued}
use Rattle.cfg_expr.specs.Homomorphism.{IsHomomorphism, IsByLane, Passes, is_disjoint}
use Rattle.cfg_expr.specs.Homomorphism.{lane_valued}
use Rattle.cfg_expr.proofs.Exactness.{fold_kept}

module _ {T U : Type 0} (one : Operations T) (other : Operations U) (Holds : T → Type 0)
    (to : T → U) (is : IsHomomorphism one other Holds to) where
  -- a value and its image under the map
  abbrev Becomes : T → U → Type 0
  Becomes x u = Holds x × (to x ≡ u)

  each-becomes : (answers : List T) → AllByRecursion Holds answers
      → AllZip Becomes answers (map to answers)
  each-becomes [] all = tt
  each-becomes (x ∷ xs) all = ((all.0, refl), each-becomes xs all.1)

  pub tree_fold-mapped : {X : Type 0} (tree : Tree X) (answers : List T)
      → AllByRecursion Holds answers
      → to (tree_fold one tree answers) ≡ tree_fold other tree (map to answers)
  tree_fold-mapped tree answers all =
      (fold_kept one other Becomes (grind arith) tree answers _ (each-becomes answers all)).1

-- a lane is a homomorphism
pub IsHomomorphism-lane : (i : ℕ) → i < 64
    → IsHomomorphism lane_valued three_valued IsDisjoint (lane i)
IsHomomorphism-lane i below = record {
  top = (refl, EachLane-top i below);
  bottom = (refl, EachLane-bottom i below);
  and = λ x y p q. (AreDisjoint-and _ _ _ _ p q, EachLane-and x y p q i below);
  or = λ x y p q. (AreDisjoint-or _ _ _ _ p q, EachLane-or x y p q i below);
  not = λ x p. (AreDisjoint-not _ _ p, EachLane-not x p i below);
}

-- a homomorphism stays one if what is known of the values is stated in another way
IsHomomorphism-same : {T U : Type 0} {one : Operations T} {other : Operations U}
    {Holds Same : T → Type 0} {to : T → U}
    → ((x : T) → Holds x → Same x) → ((x : T) → Same x → Holds x)
    → IsHomomorphism one other Holds to → IsHomomorphism one other Same to
IsHomomorphism-same there back is = grind arith

pub IsHomomorphism-lane_passes : (i : ℕ) → i < 64
    → IsHomomorphism lane_valued three_valued (Passes is_disjoint) (lane i)
IsHomomorphism-lane_passes i below = IsHomomorphism-same
    (λ x. (Decides-eqb (bit_and x.is_true x.is_false) 0).1)
    (λ x. (Decides-eqb (bit_and x.is_true x.is_false) 0).0)
    (IsHomomorphism-lane i below)

pub IsByLane-fold : {X : Type 0} (tree : Tree X) (answers : List Planes)
    → AllByRecursion IsDisjoint answers → IsByLane tree answers
IsByLane-fold tree answers all i below = grind (arith, tree_fold-mapped, IsHomomorphism-lane)
