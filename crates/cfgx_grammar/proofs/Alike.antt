-- Trees of one shape with the same literals, whose other leaves are related one by one.
use Rattle.std.proofs.Common.{arith, ◌≡◌, Bool, List, [], ◌∷◌, ◌++◌, length}
use Rattle.std.{proofs.lemmas.Slice.Zip.AllZip-long, specs.List.AllZip}
use Rattle.cfgx_grammar.specs.Tree.{ListFunction, Tree, Trees, is_function, is_leaf, asked}
use Rattle.cfgx_grammar.specs.Tree.{asked_by}

-- Lists whose items are related one by one.

pub AllZip-append : {T U : Type 0} (R : T → U → Type 0) (xs others : List T) (ys more : List U)
    → AllZip R xs ys → AllZip R others more → AllZip R (xs ++ others) (ys ++ more)
AllZip-append R [] others [] more zipped rest = rest
AllZip-append R (x ∷ xs) others (y ∷ ys) more zipped rest =
    (zipped.0, AllZip-append R xs others ys more zipped.1 rest)
AllZip-append R _ others _ more zipped rest = absurd zipped

module _ {T U : Type 0} (R : T → U → Type 0) where
  mutual
    pub data Alike : Tree T → Tree U → Type 0 where
      leaf : (x : T) (y : U) → R x y → Alike (Tree.leaf x) (Tree.leaf y)
      literal : (truth : Bool) → Alike (Tree.literal truth) (Tree.literal truth)
      list : (function : ListFunction) (xs : Trees T) (ys : Trees U) → AlikeEach xs ys
          → Alike (Tree.list function xs) (Tree.list function ys)
      not : (x : Tree T) (y : Tree U) → Alike x y → Alike (Tree.not x) (Tree.not y)

    pub data AlikeEach : Trees T → Trees U → Type 0 where
      none : AlikeEach Trees.none Trees.none
      more : (x : Tree T) (y : Tree U) (xs : Trees T) (ys : Trees U) → Alike x y
          → AlikeEach xs ys → AlikeEach (Trees.more x xs) (Trees.more y ys)

-- trees of one shape with the same literals, whatever their other leaves are
abbrev pub SameShape : {T U : Type 0} → Tree T → Tree U → Type 0
SameShape {T} {U} = Alike (λ (x : T) (y : U). Unit {0})

abbrev pub SameShapes : {T U : Type 0} → Trees T → Trees U → Type 0
SameShapes {T} {U} = AlikeEach (λ (x : T) (y : U). Unit {0})

module _ {T U : Type 0} (R : T → U → Type 0) where
  same_functions : (x : Tree T) (y : Tree U) → Alike R x y → is_function x ≡ is_function y
  same_functions x y alike = grind arith

  same_leaves : (x : Tree T) (y : Tree U) → Alike R x y → is_leaf x ≡ is_leaf y
  same_leaves x y alike = grind arith

  mutual
    -- such trees ask related leaves
    pub asked-alike : (x : Tree T) (y : Tree U) → Alike R x y → AllZip R (asked x) (asked y)
    asked-alike _ _ (Alike.leaf x y related) = (related, tt)
    asked-alike _ _ (Alike.literal truth) = tt
    asked-alike _ _ (Alike.list function xs ys each) = AllZip-append R _ _ _ _
        (asked_by-alike is_function is_function same_functions xs ys each)
        (asked_by-alike is_leaf is_leaf same_leaves xs ys each)
    asked-alike _ _ (Alike.not x y alike) = asked-alike x y alike

    pub asked_by-alike : (f : Tree T → Bool) (g : Tree U → Bool)
        → ((x : Tree T) (y : Tree U) → Alike R x y → f x ≡ g y) → (xs : Trees T) (ys : Trees U)
        → AlikeEach R xs ys → AllZip R (asked_by f xs) (asked_by g ys)
    asked_by-alike f g same _ _ AlikeEach.none = tt
    asked_by-alike f g same _ _ (AlikeEach.more x y xs ys first rest) =
        let here = asked-alike x y first in
        let others = asked_by-alike f g same xs ys rest in grind (arith, AllZip-append)

  pub length-asked : (x : Tree T) (y : Tree U) → Alike R x y → length (asked y) ≡ length (asked x)
  length-asked x y alike = AllZip-long R (asked x) (asked y) (asked-alike x y alike)

  pub length-asked_by : (xs : Trees T) (ys : Trees U) → AlikeEach R xs ys
      → length (asked_by is_function ys) ≡ length (asked_by is_function xs)
  length-asked_by xs ys each = AllZip-long R _ _
      (asked_by-alike is_function is_function same_functions xs ys each)
