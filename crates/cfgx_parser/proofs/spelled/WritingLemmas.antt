-- What is written for a tree, part by part.
use Rattle.std.proofs.{Common.{◌≡◌, ℕ, ◌+◌, List, [], ◌∷◌, ◌++◌, length}, lemmas.List.drop_at}
use Rattle.std.proofs.Common.{refl, ap, sym, ◌∙◌, arith, append_assoc, length-append}
use Rattle.std.proofs.lemmas.List.{append-nil, map-append, length-map, length_push, set_at, take_at}
use Rattle.cfgx_syntax.specs.Items.{Item}
use Rattle.cfgx_grammar.{specs.Question.Question, proofs.ListLemmas.all_of_both}
use Rattle.cfgx_parser.specs.ReadFrom.{AreReadFrom}
use Rattle.cfgx_parser.specs.nodes.Node.{Written, opening_of, asked_at, with_leaf}
use Rattle.cfgx_parser.specs.nodes.Node.{with_function, with_function_ended}
use Rattle.cfgx_parser.specs.nodes.Prefix.{Node, node_at, headed, predicates_in}
use Rattle.cfgx_parser.specs.nodes.WritesNodes.{NodeHasCut, WritesNodes}
use Rattle.cfgx_parser.{specs.declared.function.Func.Func, specs.declared.nodes.ExprNode.ExprNode}
use Rattle.cfgx_parser.specs.declared.nodes.ExprNode.TheVariants as node
use Rattle.cfgx_parser.specs.declared.located.LocatedPredicate.{LocatedPredicate}

-- Predicates that were read from a part of the items.

read_behind : (front items : List Item) (predicates : List LocatedPredicate)
    → AreReadFrom items predicates → AreReadFrom (front ++ items) predicates
read_behind front items [] read = tt
read_behind front items (one ∷ others) (before, own, after, are, is, rest) = (
  front ++ before,
  own,
  after,
  ap (λ l. front ++ l) are ∙ sym (append_assoc front before (own ++ after)),
  is,
  rest,
)

read_both : (items others : List Item) (predicates more : List LocatedPredicate)
    → AreReadFrom items predicates → AreReadFrom others more
    → AreReadFrom (items ++ others) (predicates ++ more)
read_both items others [] more read rest = read_behind items others more rest
read_both items others (one ∷ predicates) more (before, own, after, are, is, read) rest = (
  before,
  own,
  after ++ others,
  ap (λ l. l ++ others) are ∙ append_assoc before (own ++ after) others
      ∙ ap (λ l. before ++ l) (append_assoc own after others),
  is,
  read_both after others predicates more read rest,
)

pub read_before : (items others : List Item) (predicates : List LocatedPredicate)
    → AreReadFrom items predicates → AreReadFrom (items ++ others) predicates
read_before items others predicates read =
    rw append-nil at (read_both items others predicates [] read tt)

predicates-append : (nodes more : List ExprNode)
    → predicates_in (nodes ++ more) ≡ predicates_in nodes ++ predicates_in more
predicates-append [] more = refl
predicates-append (node.Predicate predicate ∷ nodes) more =
    ap (λ l. predicate ∷ l) (predicates-append nodes more)
predicates-append (node.Fn func len ∷ nodes) more = predicates-append nodes more
predicates-append (node.Literal truth ∷ nodes) more = predicates-append nodes more

-- What is written.

pub WritesNodes-none : (text : List ℕ) (w : Written) → WritesNodes text [] w w [] [] []
WritesNodes-none text w = grind (arith, append-nil)

-- two parts, one after the other, with items between them
pub WritesNodes-then : {text : List ℕ} {xs zs : List Item} {old mid new : Written}
    {shown more : List (Node Question)} {own own_more inner inner_more : List ℕ} (ys : List Item)
    → WritesNodes text xs old mid shown own inner
    → WritesNodes text zs mid new more own_more inner_more
    → WritesNodes text (xs ++ (ys ++ zs)) old new (shown ++ more) (own ++ own_more)
    (inner ++ inner_more)
WritesNodes-then {text} {xs} {zs} ys a b = record {
  added = a.added ++ b.added;
  nodes_are = grind (arith, append_assoc, a.nodes_are, b.nodes_are);
  shown_are = grind (arith, map-append, a.shown_are, b.shown_are);
  cuts = all_of_both (NodeHasCut text) a.added b.added a.cuts b.cuts;
  read = rw predicates-append (read_both xs (ys ++ zs) (predicates_in a.added)
      (predicates_in b.added) a.read (read_behind ys zs (predicates_in b.added) b.read));
  waiting_are = grind (arith, append_assoc, a.waiting_are, b.waiting_are);
  places_are = grind (arith, append_assoc, a.places_are, b.places_are);
}

-- as many nodes were added as are shown
pub length-nodes : {text : List ℕ} {items : List Item} {old new : Written}
    {shown : List (Node Question)} {own inner : List ℕ}
    → WritesNodes text items old new shown own inner
    → length new.nodes ≡ length old.nodes + length shown
length-nodes {text} w = rw (w.nodes_are, length-append, ← w.shown_are, length-map) refl

pub WritesNodes-leaf : (text : List ℕ) (items : List Item) (w : Written) (leaf : ExprNode)
    (shown : Node Question) → node_at text leaf ≡ shown → NodeHasCut text leaf
    → AreReadFrom items (predicates_in (leaf ∷ []))
    → WritesNodes text items w (with_leaf leaf w) (shown ∷ []) (asked_at leaf (length w.nodes)) []
WritesNodes-leaf text items w leaf shown is cut read = grind (arith, append-nil)

-- a function and its members
pub WritesNodes-function : {text : List ℕ} {members : List Item} {w v : Written}
    {shown : List (Node Question)} {own inner : List ℕ} (head opening closing : Item) (func : Func)
    → WritesNodes text members (with_function w) v shown own inner
    → WritesNodes text (head ∷ opening ∷ (members ++ closing ∷ [])) w
    (with_function_ended (opening_of w) func v) (headed func shown) [] (inner ++ own)
WritesNodes-function {text} {members} {w} {v} {shown} {own} head opening closing func a =
    let read = read_behind (head ∷ opening ∷ []) (members ++ closing ∷ []) (predicates_in a.added)
    (read_before members (closing ∷ []) (predicates_in a.added) a.read) in
    grind (arith, append-nil, append_assoc, drop_at, length-nodes, length_push, set_at, take_at)
