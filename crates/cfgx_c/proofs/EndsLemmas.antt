-- Ends, and the parts that have them.
use Rattle.std.proofs.Common.{◌≡◌, ◌∙◌, ◌≤◌, ◌<◌, ◌+◌, ℕ, List, [], ◌∷◌, ◌++◌, add-one, ap, arith}
use Rattle.std.proofs.Common.{drop, drop-cons, get_or, length}
use Rattle.std.specs.Prelude.{slice_range}
use Rattle.cfgx_c.specs.Ends.{AreEndsFrom, parts, parts_from}

-- no end is behind the items
pub begin-le : (begin : ℕ) (ends : List ℕ) (len : ℕ) → AreEndsFrom begin ends len → begin ≤ len
begin-le begin [] len are = omega (arith, are)
begin-le begin (end ∷ ends) len are = omega (arith, are.0, begin-le end ends len are.1)

module _ (begin i : ℕ) (ends : List ℕ) where
  -- the next end, and those behind it
  pub next_end : (len : ℕ) → i < length ends → AreEndsFrom begin (drop i ends) len
      → (begin ≤ get_or ends i 0) × AreEndsFrom (get_or ends i 0) (drop (i + 1) ends) len
  next_end len below are = rw add-one (rw (drop-cons ends i 0 below) at are)

  -- the next part, and those behind it
  pub next_part : {T : Type 0} (items : List T) (before : List (List T)) → i < length ends
      → parts ends items ≡ before ++ parts_from begin (drop i ends) items
      → parts ends items ≡ before ++ (slice_range items begin (get_or ends i 0)
      ∷ parts_from (get_or ends i 0) (drop (i + 1) ends) items)
  next_part items before below whole = whole ∙ ap (λ left. before ++ left)
      (rw add-one (ap (λ left. parts_from begin left items) (drop-cons ends i 0 below)))
