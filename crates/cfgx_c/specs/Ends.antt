-- A list of parts as one list of items and the ends of the parts in it.
-- Source: include/cfgx.h.
use Rattle.std.specs.Prelude.{◌≡◌, ◌≤◌, ℕ, List, [], ◌∷◌, slice_range}

-- each end is at least the one before it, or `begin` for the first one, and the last one is `len`;
-- if there are none, `begin` is `len`
abbrev pub AreEndsFrom : ℕ → List ℕ → ℕ → Type 0
AreEndsFrom begin [] len = begin ≡ len
AreEndsFrom begin (end ∷ ends) len = (begin ≤ end) × AreEndsFrom end ends len

-- these are the ends of parts that make up `len` items
abbrev pub AreEnds : List ℕ → ℕ → Type 0
AreEnds ends len = AreEndsFrom 0 ends len

-- the parts from `begin` on, each up to its end
abbrev pub parts_from : {T : Type 0} → ℕ → List ℕ → List T → List (List T)
parts_from begin [] items = []
parts_from begin (end ∷ ends) items = slice_range items begin end ∷ parts_from end ends items

-- the parts with these ends
abbrev pub parts : {T : Type 0} → List ℕ → List T → List (List T)
parts ends items = parts_from 0 ends items
