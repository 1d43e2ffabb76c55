-- What is written for trees of a text.
use Rattle.cfgx_grammar.specs.Question.{Question}
use Rattle.std.specs.Prelude.{◌≡◌, ◌≤◌, ℕ, List, ◌++◌, length, map}
use Rattle.std.specs.List.{AllByRecursion}
use Rattle.cfgx_syntax.specs.Token.{Token}
use Rattle.cfgx_syntax.specs.Items.{Item}
use Rattle.cfgx_parser.specs.Located.{IsSpan, HasCut, at}
use Rattle.cfgx_parser.specs.ReadFrom.{AreReadFrom, quoted_span, word_span}
use Rattle.cfgx_parser.specs.nodes.Node.{Written}
use Rattle.cfgx_parser.specs.nodes.Prefix.{Node, node_at, predicates_in}
use Rattle.cfgx_parser.specs.declared.located.Span.{Span}
use Rattle.cfgx_parser.specs.declared.nodes.ExprNode.{ExprNode}
use Rattle.cfgx_parser.specs.declared.nodes.ExprNode.TheVariants as node

abbrev pub NodeHasCut : List ℕ → ExprNode → Type 0
NodeHasCut text (node.Fn func len) = Unit {0}
NodeHasCut text (node.Predicate predicate) = HasCut text predicate
NodeHasCut text (node.Literal truth) = Unit {0}

-- the word stands at the span, at which the text can be cut
abbrev pub StandsAt : List ℕ → Span → List ℕ → Type 0
StandsAt text span word = (at text span ≡ word) × IsSpan text span

-- the word of a key or of a value stands where its item says, which ends in the text
abbrev pub IsPlaced : List ℕ → Item → Token → Type 0
IsPlaced text item (Token.key word) = StandsAt text (word_span item) word
IsPlaced text item (Token.value word) =
    StandsAt text (quoted_span item) word × (item.end ≤ length text)
IsPlaced text item _ = Unit {0}

abbrev pub ArePlaced : List ℕ → List Item → Type 0
ArePlaced text items = AllByRecursion (λ item. IsPlaced text item item.token) items

-- Nodes were written that show these, and whose predicates were read from the items. Predicates at
-- the places `own` belong to a list that is still open, and those at the places `inner` to lists
-- that have ended.
pub record WritesNodes (text : List ℕ) (items : List Item) (old new : Written)
    (shown : List (Node Question)) (own inner : List ℕ) : Type 0 where
  pub added : List ExprNode
  pub nodes_are : new.nodes ≡ old.nodes ++ added
  pub shown_are : map (node_at text) added ≡ shown
  pub cuts : AllByRecursion (NodeHasCut text) added
  pub read : AreReadFrom items (predicates_in added)
  pub waiting_are : new.waiting ≡ old.waiting ++ own
  pub places_are : new.places ≡ old.places ++ inner
