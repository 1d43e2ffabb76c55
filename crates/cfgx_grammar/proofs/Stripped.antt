-- Nothing is stripped from a text that has a tree, since no `(` may follow the key `cfg`.
use Rattle.std.proofs.Common.{◌≡◌, ℕ, Bool, true, false, List, ◌∷◌, ◌++◌, nat_eq, refl, ap}
use Rattle.std.{proofs.Common.◌∙◌, proofs.Common.arith, proofs.Common.codes, specs.List.starts_with}
use Rattle.std.{proofs.lemmas.Slice.Eq.starts_is, proofs.lemmas.Bool.Decides.Decides-eqb}
use Rattle.cfgx_syntax.specs.{Stripping.strip, Token.Token, Items.Item, Items.Ending}
use Rattle.cfgx_grammar.specs.{Question.Question, Tree.Tree, Grammar.HasTree}
use Rattle.cfgx_syntax.proofs.TokenList.{Follows-stands}
use Rattle.cfgx_grammar.proofs.spelled.{tree_laws, Finds-tree}

-- `cfg` and `(` are the first two tokens of a text that begins with them
abbrev word : Item
word = record { token = Token.key (codes "cfg"); start = 0; end = 3 }

abbrev opening : Item
opening = record { token = Token.open_paren; start = 3; end = 4 }

module _ (text rest : List ℕ) (is : text ≡ codes "cfg(" ++ rest) where
  -- such a text has no tree
  no_tree : (tree : Tree Question) → HasTree text tree → ⊥
  no_tree tree has =
      let first = Follows-stands text 0 word has.items Ending.blank (grind arith) has.are_items in
      let second = Follows-stands text 3 opening first.rest Ending.blank (grind arith) first.come in
      let items : has.items ≡ word ∷ opening ∷ second.rest = first.items_are
      ∙ ap (λ l. word ∷ l) second.items_are in
      let found = Finds-tree tree_laws text (word ∷ opening ∷ second.rest) tree
      (rw items at has.spelled) in absurd (cc found.answers)

strip_by : (text : List ℕ) (tree : Tree Question) → HasTree text tree → (b : Bool)
    → starts_with nat_eq text (codes "cfg(") ≡ b → strip text ≡ text
unfolding strip
strip_by text tree has true is =
    absurd (no_tree text _ ((starts_is Decides-eqb text (codes "cfg(") _ refl).0 is) tree has)
strip_by text tree has false is = rw is refl

pub strip-tree : (text : List ℕ) (tree : Tree Question) → HasTree text tree → strip text ≡ text
strip-tree text tree has = strip_by text tree has _ refl
