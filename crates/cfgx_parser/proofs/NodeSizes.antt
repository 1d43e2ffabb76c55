-- A tree has few nodes for its tokens and for its text. A node has a word, and each node but the
-- root stands behind a comma or an opening parenthesis.
use Rattle.std.proofs.Common.{◌≡◌, ℕ, ◌+◌, ◌*◌, ◌≤◌, List, [], ◌∷◌, ◌++◌, length, map, ap, refl}
use Rattle.std.proofs.Common.{Option, None, Some, false, cond}
use Rattle.std.{proofs.Common.arith, proofs.Common.length-append, proofs.lemmas.List.length-map}
use Rattle.std.proofs.lemmas.List.Folds.{sum_by-replicate}
use Rattle.std.proofs.lemmas.List.Sums.{sum_by-append, sum_by-cons}
use Rattle.std.proofs.lemmas.List.{length-replicate}
use Rattle.cfgx_syntax.{specs.Token.Token, proofs.ItemSizes.items-bytes}
use Rattle.cfgx_syntax.specs.Items.{Item, Ending}
use Rattle.cfgx_grammar.specs.Grammar.{leaf_tokens, list_name, IsCall, IsMember, IsList, IsTree}
use Rattle.cfgx_grammar.specs.Grammar.{commas, commas_and_opens, is_comma_or_open, HasTree}
use Rattle.cfgx_grammar.specs.Question.{Question}
use Rattle.cfgx_grammar.specs.Tree.{ListFunction, Tree, Trees}
use Rattle.cfgx_parser.specs.nodes.Prefix.{prefix, prefix_each}

-- The commas and opening parentheses among tokens.

opens-cons : (token : Token) (tokens : List Token) → commas_and_opens (token ∷ tokens)
    ≡ cond (is_comma_or_open token) 1 0 + commas_and_opens tokens
opens-cons = sum_by-cons (λ token. cond (is_comma_or_open token) 1 0)

opens-append : (these those : List Token) → commas_and_opens (these ++ those)
    ≡ commas_and_opens these + commas_and_opens those
opens-append = sum_by-append (λ token. cond (is_comma_or_open token) 1 0)

opens-commas : (n : ℕ) → commas_and_opens (commas n) ≡ n
opens-commas n =
    omega (arith, sum_by-replicate (λ token. cond (is_comma_or_open token) 1 0) n Token.comma)

opens-none : (token : Token) (tokens : List Token) → is_comma_or_open token ≡ false
    → commas_and_opens (token ∷ tokens) ≡ commas_and_opens tokens
opens-none token tokens is_other = grind (arith, opens-cons)

opens-leaf : (key : List ℕ) (value : Option (List ℕ))
    → 1 + commas_and_opens (leaf_tokens key value) ≤ length (leaf_tokens key value)
opens-leaf key None = omega arith
opens-leaf key (Some value) = omega arith

-- the tokens of a call in numbers: three more than those inside, and one opening parenthesis more
record Call (tokens inner : List Token) : Type 0 where
  length_is : length tokens ≡ length inner + 3
  opens_are : commas_and_opens tokens ≡ commas_and_opens inner + 1

call-counts : (name : Token) (tokens inner : List Token) → is_comma_or_open name ≡ false
    → IsCall name tokens inner → Call tokens inner
call-counts name tokens inner is_other is =
    let after = inner ++ Token.close_paren ∷ [] in record {
      length_is = rw is (omega (arith, length-append {A = Token}));
      opens_are = rw is (
          omega (
            arith,
            opens-none name (Token.open_paren ∷ after) is_other,
            opens-cons Token.open_paren after,
            opens-append inner (Token.close_paren ∷ []),
            opens-cons Token.close_paren [],
          )
          );
    }

list_name-opens : (function : ListFunction) → is_comma_or_open (list_name function) ≡ false
list_name-opens ListFunction.all = refl
list_name-opens ListFunction.any = refl

-- what is counted of a member and the commas behind it, if a comma counts for one
behind-counts : (count : List Token → ℕ)
    → ((these those : List Token) → count (these ++ those) ≡ count these + count those)
    → ((n : ℕ) → count (commas n) ≡ n) → (tokens member : List Token) (n : ℕ) (rest : List Token)
    → tokens ≡ member ++ (commas n ++ rest) → count tokens ≡ count member + n + count rest
behind-counts count adds counts tokens member n rest is =
    rw is (omega (arith, adds member (commas n ++ rest), adds (commas n) rest, counts n))

behind-opens : (tokens member : List Token) (n : ℕ) (rest : List Token)
    → tokens ≡ member ++ (commas n ++ rest)
    → commas_and_opens tokens ≡ commas_and_opens member + n + commas_and_opens rest
behind-opens = behind-counts commas_and_opens opens-append opens-commas

behind-length : (tokens member : List Token) (n : ℕ) (rest : List Token)
    → tokens ≡ member ++ (commas n ++ rest) → length tokens ≡ length member + n + length rest
behind-length = behind-counts length length-append (λ n. length-replicate n Token.comma)

-- Each node has a token that is neither.

mutual
  member-words : (tree : Tree Question) (tokens : List Token) → IsMember tokens tree
      → length (prefix tree) + commas_and_opens tokens ≤ length tokens
  member-words (Tree.leaf question) tokens is = rw is.2 (opens-leaf is.0 is.1)
  member-words (Tree.literal truth) tokens is = rw is.2 (opens-leaf is.0 is.1)
  member-words (Tree.list function trees) tokens is =
      let name = list_name function in
      let call = call-counts name tokens is.0 (list_name-opens function) is.1 in
      omega (arith, call.length_is, call.opens_are, list-words trees is.0 is.2)
  member-words (Tree.not tree) tokens is =
      let call = call-counts Token.not tokens (is.0 ++ commas is.1) refl is.2 in
      omega (
        arith,
        call.length_is,
        call.opens_are,
        member-words tree is.0 is.3,
        length-append is.0 (commas is.1),
        length-replicate is.1 Token.comma,
        opens-append is.0 (commas is.1),
        opens-commas is.1,
      )

  list-words : (trees : Trees Question) (tokens : List Token) → IsList tokens trees
      → length (prefix_each trees) + commas_and_opens tokens ≤ length tokens
  list-words Trees.none tokens is = rw is (omega arith)
  list-words (Trees.more tree trees) tokens is = omega (
    arith,
    behind-opens tokens is.0 is.1 is.2 is.3,
    behind-length tokens is.0 is.1 is.2 is.3,
    length-append (prefix tree) (prefix_each trees),
    member-words tree is.0 is.5,
    list-words trees is.2 is.6,
  )

-- Each node but the root stands behind one that is either.

mutual
  member-opens : (tree : Tree Question) (tokens : List Token) → IsMember tokens tree
      → length (prefix tree) ≤ 1 + commas_and_opens tokens
  member-opens (Tree.leaf question) tokens is = omega arith
  member-opens (Tree.literal truth) tokens is = omega arith
  member-opens (Tree.list function trees) tokens is =
      let name = list_name function in
      let call = call-counts name tokens is.0 (list_name-opens function) is.1 in
      omega (arith, call.opens_are, list-opens trees is.0 is.2)
  member-opens (Tree.not tree) tokens is =
      let call = call-counts Token.not tokens (is.0 ++ commas is.1) refl is.2 in
      omega (
        arith,
        call.opens_are,
        member-opens tree is.0 is.3,
        opens-append is.0 (commas is.1),
      )

  list-opens : (trees : Trees Question) (tokens : List Token) → IsList tokens trees
      → length (prefix_each trees) ≤ 1 + commas_and_opens tokens
  list-opens Trees.none tokens is = omega arith
  list-opens (Trees.more tree Trees.none) tokens is = omega (
    arith,
    behind-opens tokens is.0 is.1 is.2 is.3,
    length-append (prefix tree) [],
    member-opens tree is.0 is.5,
  )
  list-opens (Trees.more tree (Trees.more next trees)) tokens is = omega (
    arith,
    is.4,
    behind-opens tokens is.0 is.1 is.2 is.3,
    length-append (prefix tree) (prefix_each (Trees.more next trees)),
    member-opens tree is.0 is.5,
    list-opens (Trees.more next trees) is.2 is.6,
  )

-- a tree has one node, and at most one more for each comma and each opening parenthesis
pub tree-opens : (tree : Tree Question) (tokens : List Token) → IsTree tokens tree
    → length (prefix tree) ≤ 1 + commas_and_opens tokens
tree-opens tree tokens is = omega (
  arith,
  ap commas_and_opens is.2,
  opens-append is.0 (commas is.1),
  member-opens tree is.0 is.3,
)

tree-words : (tree : Tree Question) (tokens : List Token) → IsTree tokens tree
    → length (prefix tree) + commas_and_opens tokens ≤ length tokens
tree-words tree tokens is = omega (
  arith,
  ap commas_and_opens is.2,
  ap length is.2,
  opens-append is.0 (commas is.1),
  opens-commas is.1,
  length-append is.0 (commas is.1),
  length-replicate is.1 Token.comma,
  member-words tree is.0 is.3,
)

-- so between each two nodes of a text there is a byte of no node
pub nodes-twice : (text : List ℕ) (tree : Tree Question) → HasTree text tree
    → 2 * length (prefix tree) ≤ 1 + length text
nodes-twice text tree has =
    let tokens = map (λ (item : Item). item.token) has.items in
    omega (
      arith,
      tree-opens tree tokens has.spelled,
      tree-words tree tokens has.spelled,
      length-map has.items (λ (item : Item). item.token),
      items-bytes text 0 has.items Ending.blank (omega arith) has.are_items,
    )
