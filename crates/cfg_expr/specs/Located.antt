-- Where the predicates of a condition stand in its text.
use Rattle.std.specs.Prelude.{◌≡◌, ℕ, List, [], ◌∷◌, ◌++◌}
use Rattle.std.specs.List.{AllZip}
use Rattle.cfgx_syntax.specs.Spans.{LiesIn}
use Rattle.cfgx_grammar.specs.Answer.{HasOneTree}
use Rattle.cfgx_grammar.specs.Question.{Question}
use Rattle.cfgx_grammar.specs.Tree.{Tree, Trees, asked}
use Rattle.cfg_expr.specs.Fold.{tree_map}
use Rattle.cfgx_parser.specs.Located.{HasCut, question_at, whole_span}
use Rattle.cfgx_parser.specs.ReadFrom.{AreRead}
use Rattle.cfgx_parser.specs.declared.located.LocatedPredicate.{LocatedPredicate}

-- the predicate asks the question by its texts, at whose spans the text can be cut, and lies in it
pub record Locates (text : List ℕ) (question : Question) (predicate : LocatedPredicate) : Type 0
  where
    pub cut : HasCut text predicate
    pub asks : question_at text predicate ≡ question
    pub lies : LiesIn text (whole_span predicate).start (whole_span predicate).end

abbrev mutual
  -- the predicates of a tree in the order of the text
  pub in_text_order : {X : Type 0} → Tree X → List X
  in_text_order (Tree.leaf x) = x ∷ []
  in_text_order (Tree.literal truth) = []
  in_text_order (Tree.list function trees) = each_in_text_order trees
  in_text_order (Tree.not tree) = in_text_order tree

  pub each_in_text_order : {X : Type 0} → Trees X → List X
  each_in_text_order Trees.none = []
  each_in_text_order (Trees.more tree trees) = in_text_order tree ++ each_in_text_order trees

-- The predicates are what the text's one tree asks, in the order of asking, where they stand.
-- `located` is this tree with each predicate where it stands. It asks the predicates, and they were
-- read from the tokens of the text, one behind another.
pub record AreLocated (text : List ℕ) (predicates : List LocatedPredicate) : Type 0 where
  pub one : HasOneTree text
  pub each : AllZip (Locates text) (asked one.tree) predicates
  pub located : Tree LocatedPredicate
  pub asks : tree_map (question_at text) located ≡ one.tree
  pub listed : predicates ≡ asked located
  pub read : AreRead text (in_text_order located)
