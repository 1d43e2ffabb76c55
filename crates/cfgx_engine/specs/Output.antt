-- The outputs of the commands on texts.
-- Source of the rules: docs/RULES.md; of what a predicate, a value and a fault are, the crate
-- cfg-expr.
use Rattle.std.specs.Prelude.{◌≡◌, ℕ, Bool, true, false, List, [], ◌∷◌, ◌++◌, codes, map}
use Rattle.std.specs.Prelude.{Option, Some, None, Result, Ok, Err}
use Rattle.std.specs.List.{AllZip, flat_map}
use Rattle.cfgx_syntax.specs.Error.{TextFault, error_text}
use Rattle.cfgx_targets.specs.declared.info.TargetInfo.{TargetInfo}
use Rattle.cfgx_grammar.specs.Question.{Question}
use Rattle.cfgx_grammar.specs.Tree.{Tree, asked}
use Rattle.cfg_expr.specs.Filling.{three_valued}
use Rattle.cfg_expr.specs.Fold.{tree_fold}
use Rattle.cfg_expr.specs.Matching.{meets}
use Rattle.cfgx_grammar.specs.Spelling.{spelling}
use Rattle.cfgx_engine.specs.Facts.{IsAnswer, fact_text, texts_of}
use Rattle.cfgx_engine.specs.Readings.{GivesAll, ParsesAs}
use Rattle.cfgx_engine.specs.declared.resolve.facts.Otherwise.TheVariants as otherwise
use Rattle.cfgx_engine.specs.Verdicts.{answer_by}

-- what a run writes, and its exit status, if memory is found and no call fails
pub record Output : Type 0 where
  pub bytes : List ℕ
  pub status : ℕ

-- a text and a line feed
abbrev pub text_line : List ℕ → List ℕ
text_line text = text ++ codes "\n"

-- a line for each question, in order
abbrev pub lines : List Question → List ℕ
lines questions = flat_map (λ question. text_line (spelling question)) questions

abbrev pub value_text : Option Bool → List ℕ
value_text (Some true) = codes "true"
value_text (Some false) = codes "false"
value_text None = codes "unknown"

-- the text on wrong use
abbrev pub usage_line : List ℕ
usage_line = codes "usage: cfgx parse TEXT | eval TEXT FLAG.. | target TRIPLE TEXT | pick TRIPLE\n"

abbrev pub usage : Output
usage = record { bytes = usage_line; status = 2 }

abbrev pub unknown_triple : Output
unknown_triple = record { bytes = text_line (codes "unknown triple"); status = 2 }

abbrev pub value_output : Option Bool → Output
value_output value = record { bytes = text_line (value_text value); status = 0 }

-- the output with this text and the status of a faulty text or input
abbrev pub faulty_output : List ℕ → Output
faulty_output text = record { bytes = text; status = 1 }

abbrev pub fault_output : TextFault → Output
fault_output fault = faulty_output (text_line (error_text fault))

-- the output of `parse`: a line for each question that the tree asks, or the fault
abbrev pub tree_output : Result (Tree Question) TextFault → Output
tree_output (Ok tree) = record { bytes = lines (asked tree); status = 0 }
tree_output (Err fault) = fault_output fault

-- the output of a value, or of the fault in its place
abbrev pub result_output : Result (Option Bool) TextFault → Output
result_output (Ok value) = value_output value
result_output (Err fault) = fault_output fault

-- The reading holds the tree of the text and then those of the flags, or a fault. The value is that
-- of the text's tree over the answers of the flags, or the fault.
abbrev pub ValueBy : List (List ℕ) → Result (List (Tree Question)) TextFault
    → Result (Option Bool) TextFault → Type 0
ValueBy flags (Ok []) value = ⊥
ValueBy flags (Ok (tree ∷ _)) value = (answers : List (Option Bool))
    × AllZip (IsAnswer (texts_of flags) otherwise.False) (asked tree) answers
    × (value ≡ Ok (tree_fold three_valued tree answers))
ValueBy flags (Err fault) value = value ≡ Err fault

-- the value of the text over the answers of the flags, or the first fault. The text is read before
-- the flags
abbrev pub HasValueByFlags : List ℕ → List (List ℕ) → Result (Option Bool) TextFault → Type 0
HasValueByFlags text flags value = (reading : Result (List (Tree Question)) TextFault)
    × GivesAll ParsesAs (text ∷ map fact_text flags) reading × ValueBy flags reading value

-- the answer of a target to a question. A question that is not on the target is unknown
abbrev pub answer_on : {A : Type 0} → TargetInfo A → Question → Option Bool
answer_on target = answer_by (meets target)

-- the value of a tree with these answers, or the fault in its place
abbrev pub value_by : (Question → Option Bool) → Result (Tree Question) TextFault
    → Result (Option Bool) TextFault
value_by answer (Ok tree) = Ok (tree_fold three_valued tree (map answer (asked tree)))
value_by answer (Err fault) = Err fault

-- the value of the text with these answers, or its fault
abbrev pub HasValueBy : (Question → Option Bool) → List ℕ → Result (Option Bool) TextFault → Type 0
HasValueBy answer text value = (reading : Result (Tree Question) TextFault) × ParsesAs text reading
    × (value ≡ value_by answer reading)
