-- The nodes of a text's one tree, and what is read of them.
use Rattle.std.proofs.Common.{◌≡◌, ◌∙◌, ℕ, List, [], ◌∷◌, ap, get_or, map, refl}
use Rattle.std.proofs.lemmas.{List.get_or-map, Option.{get_or_from_slice_get, slice_get_within}}
use Rattle.cfgx_grammar.specs.{Answer.HasOneTree, Tree.Tree, Tree.asked}
use Rattle.cfgx_parser.specs.nodes.{Prefix.{Node, node_at, places, prefix}, Shape.{shape, shape_of}}
use Rattle.cfgx_parser.{specs.declared.nodes.ExprNode.ExprNode, proofs.Places.read-places}
use Rattle.cfgx_parser.specs.declared.nodes.ExprNode.TheVariants as node
use Rattle.cfgx_grammar.proofs.Answering.{only_tree}

shapes-shown : (text : List ℕ) (nodes : List ExprNode)
    → map shape nodes ≡ map shape_of (map (node_at text) nodes)
shapes-shown text [] = refl
shapes-shown text (node.Fn func len ∷ nodes) = rw (shapes-shown text nodes) refl
shapes-shown text (first ∷ nodes) = rw (shapes-shown text nodes) refl

-- they are those of the tree, but for what their predicates say
pub shapes-kept : {text : List ℕ} (nodes : List ExprNode)
    → (kept : HasOneTree text) × (map (node_at text) nodes ≡ prefix kept.tree)
    → (one : HasOneTree text) → map shape nodes ≡ map shape_of (prefix one.tree)
shapes-kept {text} nodes kept one = shapes-shown text nodes ∙ ap (map shape_of) (kept.1
    ∙ ap prefix (only_tree one kept.0.tree kept.0.reads.has))

-- what is read at the places of the predicates
pub read-mapped : {X Y : Type 0} (tree : Tree X) (f : Node X → Y) (otherwise : Y)
    → map (λ place. get_or (map f (prefix tree)) place otherwise) (places 0 tree)
    ≡ map (λ x. f (Node.leaf x)) (asked tree)
read-mapped tree f otherwise = read-places tree _ _ (λ place x is.
    get_or-map f (prefix tree) place (Node.leaf x) otherwise
    (slice_get_within (prefix tree) place _ is)
    ∙ ap f (get_or_from_slice_get (prefix tree) place (Node.leaf x) _ is))
