-- Conditions as trees, and the order in which their predicates are asked.
use Rattle.std.specs.Prelude.{ℕ, suc, Bool, true, false, List, [], ◌∷◌, ◌++◌, if◌then◌else◌}

-- the functions that have a list of members
pub data ListFunction : Type 0 where
  all : ListFunction
  any : ListFunction

-- A leaf, or a function with its members in source order: the `all`, `any` and `not` of the Rust
-- Reference's conditional compilation. The leaves of a condition are its predicates, and the
-- literals `true` and `false`. A tree whose leaves are answers has a value.
mutual
  pub data Tree (X : Type 0) : Type 0 where
    leaf : X → Tree X
    literal : Bool → Tree X
    list : ListFunction → Trees X → Tree X
    not : Tree X → Tree X

  pub data Trees (X : Type 0) : Type 0 where
    none : Trees X
    more : Tree X → Trees X → Trees X

abbrev pub is_function : {X : Type 0} → Tree X → Bool
is_function (Tree.list function trees) = true
is_function (Tree.not tree) = true
is_function _ = false

abbrev pub is_leaf : {X : Type 0} → Tree X → Bool
is_leaf (Tree.leaf x) = true
is_leaf (Tree.literal truth) = true
is_leaf _ = false

-- the trees of a list that pass the test, in order
abbrev pub only : {X : Type 0} → (Tree X → Bool) → Trees X → Trees X
only test Trees.none = Trees.none
only test (Trees.more tree trees) = if test tree then Trees.more tree (only test trees) else only
    test trees

-- the trees of both lists, one list after the other
abbrev pub followed_by : {X : Type 0} → Trees X → Trees X → Trees X
followed_by Trees.none others = others
followed_by (Trees.more tree trees) others = Trees.more tree (followed_by trees others)

-- the members of a function in the order in which they are asked: first the functions, then the
-- leaves, each in source order (the order of `Expression::predicates` in the crate cfg-expr)
abbrev pub arranged : {X : Type 0} → Trees X → Trees X
arranged trees = followed_by (only is_function trees) (only is_leaf trees)

-- the number of trees
abbrev pub count : {X : Type 0} → Trees X → ℕ
count Trees.none = 0
count (Trees.more tree trees) = suc (count trees)

-- the predicates of a tree in the order in which they are asked; a literal asks nothing
abbrev mutual
  pub asked : {X : Type 0} → Tree X → List X
  asked (Tree.leaf x) = x ∷ []
  asked (Tree.literal truth) = []
  asked (Tree.list function trees) = asked_by is_function trees ++ asked_by is_leaf trees
  asked (Tree.not tree) = asked tree

  -- the predicates of those trees of a list that pass the test, one tree after another
  pub asked_by : {X : Type 0} → (Tree X → Bool) → Trees X → List X
  asked_by test Trees.none = []
  asked_by test (Trees.more tree trees) = (if test tree then asked tree else [])
      ++ asked_by test trees

-- the predicates of all trees of a list
abbrev pub asked_each : {X : Type 0} → Trees X → List X
asked_each trees = asked_by (λ _. true) trees
