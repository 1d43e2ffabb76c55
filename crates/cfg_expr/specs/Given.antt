-- Answers that a caller has ready for a text's predicates.
use Rattle.std.specs.Prelude.{◌≡◌, ℕ, List, length}
use Rattle.cfgx_grammar.specs.{Question.Question, Tree.Tree, Tree.asked, Grammar.HasTree}

-- there is one answer for each predicate that the text's tree asks
abbrev pub AreAnswersTo : {T : Type 0} → List T → List ℕ → Type 0
AreAnswersTo answers text = (tree : Tree Question) × HasTree text tree
    × (length answers ≡ length (asked tree))
