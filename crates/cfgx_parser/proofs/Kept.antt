-- The nodes and places that are kept of an accepted text are those of its one tree.
use Rattle.std.proofs.Common.{◌≡◌, ℕ, ◌+◌, ◌*◌, List, [], ◌∷◌, ◌++◌, length, Ok, sym, ap, ◌∙◌, arith}
use Rattle.std.{proofs.lemmas.List.length-map, proofs.lemmas.List.append-nil}
use Rattle.std.{specs.Prelude.slice_range, specs.Prelude.◌≤◌, specs.List.AllByRecursion}
use Rattle.cfgx_syntax.{specs.Cut.CanBeCut, proofs.Values.value_inside, specs.Token.{Token, Spells}}
use Rattle.cfgx_syntax.specs.Items.{AreItems, Ending, Item, ItemsFrom, HasOneTokenList}
use Rattle.cfgx_parser.specs.ReadFrom.{AreRead, AreReadFrom}
use Rattle.cfgx_grammar.{specs.Question.Question, specs.Tree.Tree, proofs.Answering.only_tree}
use Rattle.cfgx_grammar.{proofs.ListLemmas.all_of_first}
use Rattle.cfgx_grammar.proofs.Answering.{answer, tree_of, Finds-one, HasOneTree-tree}
use Rattle.cfgx_parser.specs.nodes.KeepsTree.{KeepsTree, KeepsOneTree}
use Rattle.cfgx_parser.specs.nodes.Prefix.{places, predicates_in, prefix}
use Rattle.cfgx_parser.specs.nodes.Node.{Written, nothing, with_list_ended}
use Rattle.cfgx_parser.specs.nodes.WritesNodes.{IsPlaced, ArePlaced, WritesNodes}
use Rattle.cfgx_parser.{specs.parsing.NodeState.ParserState, specs.declared.nodes.ExprNode.ExprNode}
use Rattle.cfgx_parser.proofs.NodeSizes.{nodes-twice}
use Rattle.cfgx_parser.proofs.spelled.Laws.{own, inner, node_laws, laws_written}
use Rattle.cfgx_parser.proofs.spelled.WritingLemmas.{read_before}

-- the text of a key or of a value stands at its place
placed_at : (text : List ℕ) (token : Token) (start end : ℕ)
    → Spells (slice_range text start end) token → end ≤ length text
    → CanBeCut text token start end
    → IsPlaced text (record { token = token; start = start; end = end }) token
placed_at text token start end spelled inside cut = grind (arith, value_inside)

-- what a tree at the root asks, with its list or before
asked_root : (tree : Tree Question) → inner 0 tree ++ own 0 tree ≡ places 0 tree
asked_root tree = grind (arith, append-nil)

-- the predicate at the root is the last that is asked
KeepsTree-writes : (text : List ℕ) (items : List Item) (w v : Written) (tree : Tree Question)
    → with_list_ended 0 w ≡ v
    → WritesNodes text items nothing w (prefix tree) (own 0 tree) (inner 0 tree)
    → KeepsTree text v.nodes v.places tree
KeepsTree-writes text items w v tree is a = grind (arith, asked_root)

-- the predicates of nodes were read from the tokens if they were read from the first of them
AreRead-front : (text : List ℕ) (items first rest : List Item) (nodes added : List ExprNode)
    → AreItems text items Ending.blank → items ≡ first ++ rest → nodes ≡ added
    → AreReadFrom first (predicates_in added) → AreRead text (predicates_in nodes)
AreRead-front text items first rest nodes added are split same read = record {
  items = items;
  are_items = are;
  read = rw (split, same) (read_before first rest (predicates_in added) read);
}

module _ (text : List ℕ) (one : HasOneTokenList text) where
  -- keys and values stand at their places
  placed : ArePlaced text one.items
  placed = places one.items 0 one.are one.cuts
    where
      places : (items : List Item) (from : ℕ) → ItemsFrom text from items one.ending
          → AllByRecursion (λ i. CanBeCut text i.token i.start i.end) items → ArePlaced text items
      places [] from are cuts = tt
      places (item ∷ items) from are cuts = (
        placed_at text item.token item.start item.end are.0.spelled are.0.inside cuts.0,
        places items item.end are.1 cuts.1,
      )

  pub KeepsOneTree-accepted : (u : ParserState) → answer text one ≡ Ok u
      → KeepsOneTree text u.written.nodes u.written.places
  KeepsOneTree-accepted u e =
      let (tree, has) = tree_of text one u e in
      let f = Finds-one text one (node_laws text) tree has in
      let whole = HasOneTree-tree has in
      let same : Ok f.whole ≡ Ok u = sym f.answers ∙ e in
      let written : with_list_ended 0 f.written ≡ u.written = sym f.whole_is ∙ cc in
      let writes = laws_written text f.first nothing f.written tree f.builds
      (all_of_first _ f.first f.rest (rw f.items_are at placed)) in
      let keeps = KeepsTree-writes text f.first f.written u.written tree written writes in
      let nodes : u.written.nodes ≡ writes.added =
      sym (ap (λ (v : Written). v.nodes) written) ∙ writes.nodes_are in
      let items : has.items ≡ f.first ++ f.rest =
      (one.only has.items Ending.blank has.are_items).0 ∙ f.items_are in
      record {
        one = whole;
        keeps = rw (← only_tree whole tree has) keeps;
        read = AreRead-front text has.items f.first f.rest u.written.nodes writes.added
            has.are_items items nodes writes.read;
      }

pub few-nodes : {text : List ℕ} {nodes : List ExprNode} {asks : List ℕ}
    → KeepsOneTree text nodes asks
    → 2 * length nodes ≤ 1 + length text
few-nodes {text} {nodes} keeps = grind (arith, length-map, nodes-twice)
