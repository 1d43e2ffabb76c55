-- The result of the parser for the one token list of a text is what the grammar says of the text.
use Rattle.std.proofs.Common.{arith, ◌≡◌, ℕ, List, [], ◌∷◌, length, Some, None, Result, Ok, Err}
use Rattle.std.proofs.Common.{refl}
use Rattle.cfgx_syntax.specs.Items.{Item, Ending, AreItems, HasOneTokenList}
use Rattle.cfgx_syntax.{specs.Error.Fault, proofs.TokenList.ItemsFrom-same}
use Rattle.cfgx_grammar.specs.{Question.Question, Tree.Tree, Grammar.HasTree}
use Rattle.cfgx_grammar.specs.Answer.{HasOneTree, HasReading, Reading, ReadsAs}
use Rattle.cfgx_grammar.{specs.parsing.State.{Builder, State, initial}, proofs.spelled.Finds-tree}
use Rattle.cfgx_grammar.specs.parsing.Step.{step_each, conclude, answer_from}
use Rattle.cfgx_grammar.proofs.accepted.{ran, IsTree-accepted}
use Rattle.cfgx_grammar.proofs.faults.Steps.{EndAgrees, whole_agrees}
use Rattle.cfgx_grammar.proofs.spelled.{Laws, tree_builder, tree_laws, tree_built, Finds}

module _ {W M L : Type 0} {builder : Builder W M L} (text : List ℕ)
    (one : HasOneTokenList text) where
  abbrev pub answer : Result (State builder) Fault
  answer = answer_from None initial text one.items one.ending

  -- the one token list spells the tree
  pub Finds-one : (laws : Laws builder) (tree : Tree Question) → HasTree text tree
      → Finds laws text one.items one.ending tree
  Finds-one laws tree has = grind (arith, Finds-tree)

  -- an accepted text has a tree
  pub tree_of : (u : State builder) → answer ≡ Ok u → (tree : Tree Question) × HasTree text tree
  tree_of u e =
      let r = ran (step_each None initial one.items) _ u e in
      let blank : one.ending ≡ Ending.blank = grind arith in
      let ended : conclude r.0.0 (length text) r.0.1 ≡ Ok u = grind (arith, r.2) in
      grind (arith, ended, IsTree-accepted)

-- The result of the parser that builds the tree, for a text with this reading.
abbrev Shows : Reading → Result (State tree_builder) Fault → Type 0
Shows (Ok tree) answer = (s : State tree_builder) × (answer ≡ Ok s) × (s.written ≡ tree ∷ [])
Shows (Err fault) answer = answer ≡ Err fault

-- the items of such a text, and the result for them
record Shown (text : List ℕ) (reading : Reading) : Type 0 where
  pub items : List Item
  pub ending : Ending
  pub are : AreItems text items ending
  pub shows : Shows reading (answer_from None initial text items ending)

shown : (text : List ℕ) (reading : Reading) → HasReading text reading → Shown text reading
shown text (Ok tree) has =
    let f = Finds-tree tree_laws text has.items tree has.spelled in grind (arith, tree_built)
shown text (Err fault) has =
    let agrees = whole_agrees tree_builder text has.items has.ending in
    record {
      items = has.items;
      ending = has.ending;
      are = has.are_items;
      shows = refused _ fault (rw has.shown at agrees);
    }
  where
    refused : (r : Result (State tree_builder) Fault) (fault : Fault)
        → EndAgrees r (Some fault) → r ≡ Err fault
    refused r fault agrees = grind arith

-- A text reads one way: its items are the same, and so is the result for them.
pub ReadsAs-has : {text : List ℕ} (reading : Reading) → HasReading text reading
    → ReadsAs text reading
ReadsAs-has {text} reading has = grind (arith, shown, ItemsFrom-same)

pub HasOneTree-tree : {text : List ℕ} {tree : Tree Question} → HasTree text tree → HasOneTree text
HasOneTree-tree {text} {tree} has = record { tree = tree; reads = ReadsAs-has (Ok tree) has }

-- a text with one tree has no other tree
pub only_tree : {text : List ℕ} (one : HasOneTree text) (tree : Tree Question)
    → HasTree text tree → tree ≡ one.tree
only_tree one tree has = let same = one.reads.only (Ok tree) has in cc

-- a text that reads as one fault has no other fault, and no tree
pub same_fault : {text : List ℕ} {one other : Fault} → ReadsAs text (Err one)
    → ReadsAs text (Err other) → one ≡ other
same_fault this that = let same = that.only (Err _) this.has in cc

pub not_both : {text : List ℕ} {fault : Fault} → ReadsAs text (Err fault) → HasOneTree text → ⊥
not_both refused one = let same = refused.only (Ok one.tree) one.reads.has in cc

module _ {W M L : Type 0} {builder : Builder W M L} (text : List ℕ)
    (one : HasOneTokenList text) where
  -- a text for which the parser finds a fault reads as this fault
  pub ReadsAs-fault : (fault : Fault) → answer {builder = builder} text one ≡ Err fault
      → ReadsAs text (Err fault)
  ReadsAs-fault fault e =
      let shown = rw e at (whole_agrees builder text one.items one.ending) in
      ReadsAs-has (Err fault) (record {
        items = one.items;
        ending = one.ending;
        are_items = one.are;
        shown = shown;
      })

-- Each text reads one way.
pub reads_one_way : (text : List ℕ) → HasOneTokenList text
    → (reading : Reading) × ReadsAs text reading
reads_one_way text one = decided (answer text one) refl
  where
    decided : (r : Result (State tree_builder) Fault) → answer text one ≡ r
        → (reading : Reading) × ReadsAs text reading
    decided (Ok u) e =
        let (tree, has) = tree_of text one u e in (Ok tree, ReadsAs-has (Ok tree) has)
    decided (Err fault) e = (Err fault, ReadsAs-fault text one fault e)
