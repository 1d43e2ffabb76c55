-- A decision as bytes.
-- Source: include/cfgx.h.
use Rattle.std.specs.Prelude.{◌≡◌, ◌++◌, ◌*◌, ℕ, Bool, true, false, List, [], Option, Some, None}
use Rattle.std.specs.Prelude.{length, map}
use Rattle.cfgx_grammar.specs.{Answer.HasOneTree, Tree.Tree}
use Rattle.cfg_expr.specs.Filling.{IsExact, filling_bytes, polar, three_valued}
use Rattle.cfg_expr.specs.Fold.{tree_fold}
use Rattle.cfgx_c.specs.Buffer.{Fills}
use Rattle.cfgx_c.specs.Value.{answer_of, byte_of_value}

-- the bytes of both polar fillings, one behind the other
abbrev pub both_fillings : {X : Type 0} → Tree X → List (Option Bool) → List ℕ
both_fillings tree answers =
    filling_bytes (polar tree answers true) ++ filling_bytes (polar tree answers false)

-- both fillings if the value is unknown, and no bytes if it is known
abbrev pub fillings_for : {X : Type 0} → Option Bool → Tree X → List (Option Bool) → List ℕ
fillings_for (Some value) tree answers = []
fillings_for None tree answers = both_fillings tree answers

-- The value of the text's one tree over these answers was decided, and it is exact: it is known
-- exactly if every filling of the unknown answers leads to it. The buffer was filled with both
-- fillings if it is unknown: with two bytes for each answer.
pub record DecidesOver (text answers old new : List ℕ) (needed value : ℕ) : Type 0 where
  pub one : HasOneTree text
  pub exact : IsExact one.tree (map answer_of answers)
  pub value_is : value ≡ byte_of_value (tree_fold three_valued one.tree (map answer_of answers))
  pub fills : Fills (fillings_for (tree_fold three_valued one.tree (map answer_of answers)) one.tree
      (map answer_of answers)) old new needed
  pub twice : value ≡ byte_of_value None → needed ≡ 2 * length answers
