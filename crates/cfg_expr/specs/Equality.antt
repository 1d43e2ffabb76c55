-- The codes by which predicates are compared. No two questions have the same code.
use Rattle.std.specs.Prelude.{ℕ, Bool, List, [], ◌∷◌, Option, Some, None, length, nat_eq}
use Rattle.std.specs.Ordering.{nat_cmp, on}
use Rattle.std.specs.declared.cmp.Ordering.{Ordering}
use Rattle.std.specs.Cmp.Lexicographic.{pointwise, slice_cmp}
use Rattle.cfgx_grammar.specs.Question.{Question, TargetQuestion}
use Rattle.cfgx_parser.specs.Asked.{asked_number, key_of, kind_number, value_of, without_texts}
use Rattle.cfg_expr.specs.declared.expr.asked_texts.AskedTexts.{AskedTexts}

abbrev pub Code : Type 0
Code = List (List ℕ)

-- the number, if there is one
abbrev pub number_code : Option ℕ → List ℕ
number_code None = []
number_code (Some number) = number ∷ []

-- the number of the kind and the number that is asked for, if there is one, then the lengths of the
-- key and of the value, and then the key and the value
abbrev pub code_with : ℕ → Option ℕ → List ℕ → List ℕ → Code
code_with kind number key value =
    (kind ∷ number_code number) ∷ (length key ∷ length value ∷ []) ∷ key ∷ value ∷ []

-- the code of what a predicate asks with its texts
abbrev pub texts_code : AskedTexts → Code
texts_code texts = code_with texts.kind texts.number texts.key.now texts.value.now

-- the code of a question
abbrev pub question_code : Question → Code
question_code question = let asked = without_texts question in
    code_with (kind_number asked) (asked_number asked) (key_of question) (value_of question)

abbrev pub target_code : TargetQuestion → Code
target_code question = question_code (Question.target question)

-- whether two codes are the same
abbrev pub code_eq : Code → Code → Bool
code_eq = pointwise (pointwise nat_eq)

-- the order of codes
abbrev pub code_cmp : Code → Code → Ordering
code_cmp = slice_cmp (slice_cmp nat_cmp)

-- whether two questions on the target are the same
abbrev pub target_eq : TargetQuestion → TargetQuestion → Bool
target_eq = on target_code code_eq

-- whether two questions are the same
abbrev pub question_eq : Question → Question → Bool
question_eq = on question_code code_eq
