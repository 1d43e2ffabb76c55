-- How a predicate is written: a key, and if it has a value, one space, `=`, one space and the
-- value in quotes.
use Rattle.std.specs.Prelude.{ℕ, List, ◌++◌, codes}
use Rattle.std.specs.Fmt.{decimal}
use Rattle.cfgx_fields.specs.{Endian.endian_text, HasAtomic.atomic_text, TextKey.key_name}
use Rattle.cfgx_grammar.specs.Question.{Question, TargetQuestion}

abbrev pub key_and_value : List ℕ → List ℕ → List ℕ
key_and_value key value = key ++ (codes " = \"" ++ (value ++ codes "\""))

abbrev pub target_spelling : TargetQuestion → List ℕ
target_spelling (TargetQuestion.text key text) = key_and_value (key_name key) text
target_spelling (TargetQuestion.endian endian) = key_and_value (codes "target_endian")
    (endian_text endian)
target_spelling (TargetQuestion.has_atomic atomic) = key_and_value (codes "target_has_atomic")
    (atomic_text atomic)
target_spelling (TargetQuestion.pointer_width width) = key_and_value (codes "target_pointer_width")
    (decimal width)

abbrev pub spelling : Question → List ℕ
spelling (Question.target question) = target_spelling question
spelling Question.test = codes "test"
spelling Question.debug_assertions = codes "debug_assertions"
spelling Question.proc_macro = codes "proc_macro"
spelling (Question.feature text) = key_and_value (codes "feature") text
spelling (Question.target_feature text) = key_and_value (codes "target_feature") text
spelling (Question.flag key) = key
spelling (Question.key_value key value) = key_and_value key value
