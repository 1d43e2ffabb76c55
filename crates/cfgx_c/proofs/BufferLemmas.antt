-- Two buffers that both have room are filled.
use Rattle.std.proofs.Common.{◌≤◌, List, ◌++◌, drop, length, refl}
use Rattle.std.proofs.lemmas.Bool.{le-leb}
use Rattle.cfgx_c.specs.Buffer.{FillsBoth}

-- both lists stand at the starts of their buffers
pub FillsBoth-room : {S T : Type 0} (items old : List S) (others other_old : List T)
    → length items ≤ length old → length others ≤ length other_old
    → FillsBoth items old (items ++ drop (length items) old) others other_old
    (others ++ drop (length others) other_old)
FillsBoth-room items old others other_old fits other_fits =
    rw (le-leb _ _ fits, le-leb _ _ other_fits) (refl, refl)
