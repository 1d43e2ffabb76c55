-- Sorted lists.
-- Source: the documentation of `sort_unstable` of Rust's slices: what it does is a rearrangement.
use Rattle.std.specs.Prelude.{ℕ, List, [], ◌∷◌, ◌++◌, codes, IsPermutation, IsSorted}
use Rattle.std.specs.{List.flat_map, declared.cmp.Ordering.Ordering}

-- `members` are `items`, rearranged so that none is below the one before it
pub record IsSortedFrom {T : Type 0} (cmp : T → T → Ordering) (items members : List T)
    : Type 0 where
  pub rearranged : IsPermutation items members
  pub sorted : IsSorted cmp members

-- texts, each after a comma and a space
abbrev pub others_text : List (List ℕ) → List ℕ
others_text texts = flat_map (λ text. codes ", " ++ text) texts

-- texts, with a comma and a space between two
abbrev pub separated_text : List (List ℕ) → List ℕ
separated_text [] = []
separated_text (text ∷ others) = text ++ others_text others

-- what a list prints, from the texts of its members
abbrev pub list_text : List (List ℕ) → List ℕ
list_text texts = codes "{" ++ separated_text texts ++ codes "}"
