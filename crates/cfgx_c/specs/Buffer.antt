-- How a call fills a buffer.
-- Source: include/cfgx.h.
use Rattle.std.specs.Prelude.{◌≡◌, ◌++◌, ℕ, Bool, false, List, drop, length, nat_le}
use Rattle.std.specs.Prelude.{if◌then◌else◌}

-- `needed` is the number of items; the buffer begins with them if they all fit, and otherwise stays
-- as it was
abbrev pub Fills : {T : Type 0} → List T → List T → List T → ℕ → Type 0
Fills items old new needed = (needed ≡ length items)
    × (new ≡ (if nat_le needed (length old) then items ++ drop needed old else old))

-- both lists fit in their buffers
abbrev pub fit_both : {S T : Type 0} → List S → List S → List T → List T → Bool
fit_both items old other_items other_old =
    if nat_le (length items) (length old) then nat_le (length other_items) (length other_old)
    else false

-- both buffers begin with their items if both lists fit, and otherwise both stay as they were
abbrev pub FillsBoth : {S T : Type 0} → List S → List S → List S → List T → List T → List T → Type 0
FillsBoth items old new other_items other_old other_new =
    (new ≡ (if fit_both items old other_items other_old then items ++ drop (length items) old
    else old))
    × (other_new ≡ (if fit_both items old other_items other_old
    then other_items ++ drop (length other_items) other_old else other_old))
