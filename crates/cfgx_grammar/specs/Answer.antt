-- What a stripped text reads as, and what `Expression::parse` returns for it, by the grammar and
-- the first fault alone.
use Rattle.std.specs.Prelude.{◌≡◌, ℕ, List, Result, Ok, Err}
use Rattle.cfgx_syntax.specs.{Stripping.strip, declared.error.Failure.Failure}
use Rattle.cfgx_syntax.specs.Error.{Fault, fault_in, fault_of}
use Rattle.cfgx_syntax.specs.declared.error.Failure.TheVariants as failure
use Rattle.cfgx_grammar.specs.{Question.Question, Tree.Tree, Grammar.HasTree}
use Rattle.cfgx_grammar.specs.FirstFault.{HasFirstFault}

-- a tree, or a fault
abbrev pub Reading : Type 0
Reading = Result (Tree Question) Fault

-- the text has this tree, or this first fault
abbrev pub HasReading : List ℕ → Reading → Type 0
HasReading text (Ok tree) = HasTree text tree
HasReading text (Err fault) = HasFirstFault text fault

-- The text reads as this, and as nothing else. A text in UTF-8 has one such reading, by the lemma
-- `reads_one_way`.
pub record ReadsAs (text : List ℕ) (reading : Reading) : Type 0 where
  pub has : HasReading text reading
  pub only : (other : Reading) → HasReading text other → other ≡ reading

-- the text reads as a tree
pub record HasOneTree (text : List ℕ) : Type 0 where
  pub tree : Tree Question
  pub reads : ReadsAs text (Ok tree)

-- The result is what the text reads as. An expression is seen as the text, from which nothing more
-- is stripped; a fault has the text. If the call is out of memory, the text still reads one way.
abbrev pub Answers : {A : Type 0} → List ℕ → Result (List ℕ) (Failure A) → Type 0
Answers text (Ok expression) = (expression ≡ text) × (strip text ≡ text) × HasOneTree text
Answers text (Err (failure.Parse error)) = (fault : Fault)
    × (fault_of error ≡ fault_in text fault) × ReadsAs text (Err fault)
Answers text (Err (failure.Memory error)) = (reading : Reading) × ReadsAs text reading
