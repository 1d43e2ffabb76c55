-- A function asks what its arranged members ask, and its value is that of their values.
use Rattle.std.proofs.Common.{◌≡◌, Bool, ◌++◌, refl, append_assoc, arith}
use Rattle.cfgx_grammar.specs.Question.{Question}
use Rattle.cfg_expr.specs.Fold.{Operations, values_by, values_of}
use Rattle.cfgx_grammar.specs.Tree.{Tree, Trees, is_function, is_leaf, only, followed_by, arranged}
use Rattle.cfgx_grammar.specs.Tree.{asked_by, asked_each}

asked_each-followed_by : (trees others : Trees Question) → asked_each (followed_by trees others) ≡
    asked_each trees ++ asked_each others
asked_each-followed_by Trees.none others = refl
asked_each-followed_by (Trees.more tree trees) others =
    rw (asked_each-followed_by trees others, append_assoc) refl

asked_each-only : (test : Tree Question → Bool) (trees : Trees Question)
    → asked_each (only test trees) ≡ asked_by test trees
asked_each-only test Trees.none = refl
asked_each-only test (Trees.more tree trees) = grind (arith, asked_each-only test trees)

pub asked_each-arranged : (trees : Trees Question) → asked_by is_function trees
    ++ asked_by is_leaf trees ≡ asked_each (arranged trees)
asked_each-arranged trees = grind (arith, asked_each-followed_by, asked_each-only)

module _ {T : Type 0} (logic : Operations T) where
  values_of-followed_by : (trees others : Trees T) → values_of logic (followed_by trees others)
      ≡ values_of logic trees ++ values_of logic others
  values_of-followed_by Trees.none others = refl
  values_of-followed_by (Trees.more tree trees) others =
      rw (values_of-followed_by trees others) refl

  values_of-only : (test : Tree T → Bool) (trees : Trees T)
      → values_of logic (only test trees) ≡ values_by logic test trees
  values_of-only test Trees.none = refl
  values_of-only test (Trees.more tree trees) = rw (← values_of-only test trees) (grind arith)

  pub values_of-arranged : (trees : Trees T) → values_by logic is_function trees
      ++ values_by logic is_leaf trees ≡ values_of logic (arranged trees)
  values_of-arranged trees = grind (arith, values_of-followed_by, values_of-only)
