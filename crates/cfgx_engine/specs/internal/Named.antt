-- Predicates that facts name, as codes by which they are ordered and found.
use Rattle.std.specs.Prelude.{◌≡◌, ◌≤◌, ◌+◌, ℕ, List, [], ◌∷◌, Option, Some, None, drop, map, take}
use Rattle.std.specs.{List.All, List.Sorted.IsSorted}
use Rattle.cfgx_grammar.specs.Question.{Question}
use Rattle.cfgx_grammar.specs.{Spelling.spelling, WellFormed.IsWellFormed}
use Rattle.cfgx_parser.specs.Asked.{asked_numbered, question_with}
use Rattle.cfg_expr.specs.Equality.{Code, code_cmp, code_with, question_code}
use Rattle.cfgx_engine.specs.declared.resolve.named.NamedPredicate.{NamedPredicate}
use Rattle.cfgx_engine.specs.Facts.{FactTexts}

-- the code of what is named, whose texts begin at its start in the buffer
abbrev pub code_at : List ℕ → NamedPredicate → Code
code_at buffer named = let texts = drop named.start buffer in
    code_with named.kind named.number (take named.key_len texts)
    (take named.value_len (drop named.key_len texts))

-- its texts lie in a buffer of this length
abbrev pub IsInside : ℕ → NamedPredicate → Type 0
IsInside len named = named.start + named.key_len + named.value_len ≤ len

-- the number behind that of the kind, if there is one
abbrev pub number_in : List ℕ → Option ℕ
number_in [] = None
number_in (number ∷ _) = Some number

-- the question of a code
abbrev pub question_in : Code → Question
question_in ((kind ∷ numbers) ∷ lens ∷ key ∷ value ∷ []) =
    question_with key value (asked_numbered kind (number_in numbers))
question_in _ = Question.test

-- how the questions of codes are spelled
abbrev pub spelled : List Code → List (List ℕ)
spelled names = map (λ name. spelling (question_in name)) names

-- the texts that spell what is named as true and what is named as unknown
abbrev pub facts_in : List Code → List Code → FactTexts
facts_in true_names unknown_names =
    record { true_texts = spelled true_names; unknown_texts = spelled unknown_names }

-- the code of a question that can stand in a text
abbrev pub IsName : Code → Type 0
IsName name = (question : Question) × IsWellFormed question × (name ≡ question_code question)

abbrev pub AreNames : List Code → Type 0
AreNames names = All IsName names

-- and they are in order, so that halving finds each
abbrev pub AreFound : List Code → Type 0
AreFound names = AreNames names × IsSorted code_cmp names
