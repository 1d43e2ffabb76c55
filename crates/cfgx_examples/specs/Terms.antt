-- Terms of at most 64 bytes, the values of a logic.
use Rattle.std.specs.Prelude.{ℕ, List, ◌∷◌, ◌++◌, codes, take}

-- the bytes that a term keeps
abbrev pub cut : List ℕ → List ℕ
cut bytes = take 64 bytes

-- both terms in parentheses, with `sign` between them
abbrev pub in_parens : ℕ → List ℕ → List ℕ → List ℕ
in_parens sign one other = cut (codes "(" ++ (one ++ (sign ∷ (other ++ codes ")"))))
