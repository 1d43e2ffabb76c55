-- Answers and values as bytes.
-- Source: include/cfgx.h.
use Rattle.std.specs.Prelude.{◌≡◌, ◌≢◌, ◌==◌, ℕ, Bool, true, false, List, Option, Some}
use Rattle.std.specs.Prelude.{None, length, map, if◌then◌else◌}
use Rattle.cfgx_grammar.specs.Answer.{HasOneTree}
use Rattle.cfg_expr.specs.Filling.{three_valued}
use Rattle.cfg_expr.specs.Fold.{tree_fold}
use Rattle.cfgx_grammar.specs.Tree.{asked}

-- the answer in a byte: 0 is false, 1 is true, and any other is unknown
abbrev pub answer_of : ℕ → Option Bool
answer_of byte =
    if byte == 0 then Some false else (if byte == 1 then Some true else None)

-- the byte of a value
abbrev pub byte_of_value : Option Bool → ℕ
byte_of_value (Some false) = 0
byte_of_value (Some true) = 1
byte_of_value None = 2

-- the value of the text's one tree over these answers, one for each predicate in the order in which
-- they are asked
pub record HasValueByteOver (text answers : List ℕ) (value : ℕ) : Type 0 where
  pub one : HasOneTree text
  pub count : length answers ≡ length (asked one.tree)
  pub value_is : value ≡ byte_of_value (tree_fold three_valued one.tree (map answer_of answers))

-- the text's one tree asks more or fewer predicates than there are answers
abbrev pub HasOtherCount : List ℕ → List ℕ → Type 0
HasOtherCount text answers =
    (one : HasOneTree text) × (length answers ≢ length (asked one.tree))
