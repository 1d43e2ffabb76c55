-- A text has no more items than bytes.
use Rattle.std.proofs.Common.{ℕ, ◌+◌, ◌≤◌, List, [], ◌∷◌, length, arith}
use Rattle.cfgx_syntax.specs.Items.{Item, Ending, ItemsFrom}

pub items-bytes : (text : List ℕ) (from : ℕ) (items : List Item) (ending : Ending)
    → from ≤ length text → ItemsFrom text from items ending
    → from + length items ≤ length text
items-bytes text from [] ending inside are = omega arith
items-bytes text from (item ∷ items) ending inside are =
    grind (arith, items-bytes text item.end items ending are.0.inside are.1)
