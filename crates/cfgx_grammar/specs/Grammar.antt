-- Which tokens spell which tree: the grammar of `ConfigurationPredicate` in the Rust Reference,
-- with its literals `true` and `false`, and with any number of commas where it has one, as in the
-- crate cfg-expr.
use Rattle.std.specs.Prelude.{◌≡◌, ℕ, ◌<◌, List, [], ◌∷◌, ◌++◌, replicate, map, Option, Some, None}
use Rattle.std.specs.Prelude.{Bool, true, false, count_by}
use Rattle.cfgx_syntax.specs.Token.{Token}
use Rattle.cfgx_syntax.specs.Items.{Item, Ending, AreItems}
use Rattle.cfgx_grammar.specs.Question.{Leaf, Question}
use Rattle.cfgx_grammar.specs.Classification.{Class, class}
use Rattle.cfgx_grammar.specs.Tree.{ListFunction, Tree, Trees}

abbrev pub commas : ℕ → List Token
commas n = replicate n Token.comma

-- a comma or an opening parenthesis: one stands in front of each member of a function
abbrev pub is_comma_or_open : Token → Bool
is_comma_or_open Token.comma = true
is_comma_or_open Token.open_paren = true
is_comma_or_open _ = false

-- the number of commas and opening parentheses among the tokens
abbrev pub commas_and_opens : List Token → ℕ
commas_and_opens = count_by is_comma_or_open

-- the tokens of a key, and of `=` and the value if there is one
abbrev pub leaf_tokens : List ℕ → Option (List ℕ) → List Token
leaf_tokens key None = Token.key key ∷ []
leaf_tokens key (Some value) = Token.key key ∷ Token.equals ∷ Token.value value ∷ []

-- the tokens spell the predicate or the literal
abbrev pub IsLeaf : List Token → Leaf → Type 0
IsLeaf tokens leaf =
    (key : List ℕ) × (value : Option (List ℕ)) × (tokens ≡ leaf_tokens key value)
    × (class key value ≡ Class.is leaf)

-- the tokens are a function's name, and its members' tokens in parentheses
abbrev pub IsCall : Token → List Token → List Token → Type 0
IsCall name tokens inner = tokens ≡ name ∷ Token.open_paren ∷ (inner ++ Token.close_paren ∷ [])

-- the name of a function that has a list of members
abbrev pub list_name : ListFunction → Token
list_name ListFunction.all = Token.all
list_name ListFunction.any = Token.any

-- `n` commas may stand between a member and these: any number if there are none, else at least one
abbrev pub Separates : ℕ → Trees Question → Type 0
Separates n Trees.none = Unit {0}
Separates n (Trees.more tree trees) = 0 < n

abbrev mutual
  -- the tokens spell the tree as one member of a list
  pub IsMember : List Token → Tree Question → Type 0
  IsMember tokens (Tree.leaf question) = IsLeaf tokens (Leaf.predicate question)
  IsMember tokens (Tree.literal truth) = IsLeaf tokens (Leaf.literal truth)
  IsMember tokens (Tree.list function trees) = (inner : List Token)
      × IsCall (list_name function) tokens inner × IsList inner trees
  IsMember tokens (Tree.not tree) = (member : List Token) × (n : ℕ)
      × IsCall Token.not tokens (member ++ commas n) × IsMember member tree

  -- the tokens spell the trees as a list
  pub IsList : List Token → Trees Question → Type 0
  IsList tokens Trees.none = tokens ≡ []
  IsList tokens (Trees.more tree trees) =
      (member : List Token) × (n : ℕ) × (rest : List Token)
      × (tokens ≡ member ++ (commas n ++ rest)) × Separates n trees
      × IsMember member tree × IsList rest trees

-- the tokens are one member and any number of commas
abbrev pub IsTree : List Token → Tree Question → Type 0
IsTree tokens tree = (member : List Token) × (n : ℕ) × (tokens ≡ member ++ commas n)
    × IsMember member tree

-- a stripped text has this tree: white space alone follows its last token, and its tokens spell the
-- tree
pub record HasTree (text : List ℕ) (tree : Tree Question) : Type 0 where
  pub items : List Item
  pub are_items : AreItems text items Ending.blank
  pub spelled : IsTree (map (λ item. item.token) items) tree
