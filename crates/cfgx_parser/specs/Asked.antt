-- What predicates ask, without their texts, and the numbers by which callers in C know it.
-- Source of the numbers: cfgx_c/include/cfgx.h.
use Rattle.std.specs.Prelude.{ℕ, ◌-◌, ◌==◌, List, [], ◌∷◌, Option, Some, None, get_or}
use Rattle.std.specs.Prelude.{if◌then◌else◌}
use Rattle.cfgx_fields.specs.Endian.{endian_rank}
use Rattle.cfgx_fields.specs.declared.atomic.HasAtomic.{HasAtomic}
use Rattle.cfgx_fields.specs.declared.atomic.HasAtomic.TheVariants.{IntegerSize, Pointer}
use Rattle.cfgx_fields.specs.declared.endian.Endian.{Endian}
use Rattle.cfgx_fields.specs.declared.endian.Endian.TheVariants.{big, little}
use Rattle.cfgx_fields.specs.declared.text_key.TextKey.{TextKey}
use Rattle.cfgx_fields.specs.declared.text_key.TextKey.TheVariants as key
use Rattle.cfgx_grammar.specs.Question.{Question, TargetQuestion}
use Rattle.cfgx_parser.specs.declared.asked.Asked.{Asked}
use Rattle.cfgx_parser.specs.declared.asked.Asked.TheVariants as asked
use Rattle.cfgx_parser.specs.declared.asked.AskedTarget.{AskedTarget}
use Rattle.cfgx_parser.specs.declared.asked.AskedTarget.TheVariants as target

-- the number of the kind
abbrev pub kind_number : Asked → ℕ
kind_number asked.Flag = 1
kind_number asked.KeyValue = 2
kind_number asked.Test = 3
kind_number asked.DebugAssertions = 4
kind_number asked.ProcMacro = 5
kind_number asked.Feature = 6
kind_number asked.TargetFeature = 7
kind_number (asked.Target (target.Text key.Abi)) = 8
kind_number (asked.Target (target.Text key.Arch)) = 9
kind_number (asked.Target (target.Endian order)) = 10
kind_number (asked.Target (target.Text key.Env)) = 11
kind_number (asked.Target (target.Text key.Family)) = 12
kind_number (asked.Target (target.HasAtomic width)) = 13
kind_number (asked.Target (target.Text key.Os)) = 14
kind_number (asked.Target (target.Text key.Panic)) = 15
kind_number (asked.Target (target.PointerWidth bits)) = 16
kind_number (asked.Target (target.Text key.Vendor)) = 17

-- the number of bits of a pointer or of an atomic, or the rank of a byte order
abbrev pub asked_number : Asked → Option ℕ
asked_number (asked.Target (target.Endian order)) = Some (endian_rank order)
asked_number (asked.Target (target.HasAtomic (IntegerSize bits))) = Some bits
asked_number (asked.Target (target.PointerWidth bits)) = Some bits
asked_number _ = None

-- the byte order, the width and the number of bits that a number says
abbrev pub order_of : Option ℕ → Endian
order_of (Some number) = if number == 0 then big else little
order_of None = big

abbrev pub width_of : Option ℕ → HasAtomic
width_of (Some bits) = IntegerSize bits
width_of None = Pointer

abbrev pub bits_of : Option ℕ → ℕ
bits_of (Some bits) = bits
bits_of None = 0

abbrev pub text_asked : TextKey → Option ℕ → Asked
text_asked name number = asked.Target (target.Text name)

-- what the kinds ask with a number, in the order of their own numbers, from 1 on
abbrev pub kinds : List (Option ℕ → Asked)
kinds = (λ _. asked.Flag) ∷ (λ _. asked.KeyValue) ∷ (λ _. asked.Test)
    ∷ (λ _. asked.DebugAssertions) ∷ (λ _. asked.ProcMacro) ∷ (λ _. asked.Feature)
    ∷ (λ _. asked.TargetFeature) ∷ text_asked key.Abi ∷ text_asked key.Arch
    ∷ (λ number. asked.Target (target.Endian (order_of number))) ∷ text_asked key.Env
    ∷ text_asked key.Family ∷ (λ number. asked.Target (target.HasAtomic (width_of number)))
    ∷ text_asked key.Os ∷ text_asked key.Panic
    ∷ (λ number. asked.Target (target.PointerWidth (bits_of number))) ∷ text_asked key.Vendor ∷ []

-- what is asked by the number of the kind and the number, if there is one
abbrev pub asked_numbered : ℕ → Option ℕ → Asked
asked_numbered kind = get_or kinds (kind - 1) (λ _. asked.Flag)

-- what a predicate on the target asks, without its text
abbrev pub without_text : TargetQuestion → AskedTarget
without_text (TargetQuestion.text key text) = target.Text key
without_text (TargetQuestion.endian order) = target.Endian order
without_text (TargetQuestion.has_atomic width) = target.HasAtomic width
without_text (TargetQuestion.pointer_width bits) = target.PointerWidth bits

-- what a predicate asks, without its texts
abbrev pub without_texts : Question → Asked
without_texts (Question.target question) = asked.Target (without_text question)
without_texts Question.test = asked.Test
without_texts Question.debug_assertions = asked.DebugAssertions
without_texts Question.proc_macro = asked.ProcMacro
without_texts (Question.feature text) = asked.Feature
without_texts (Question.target_feature text) = asked.TargetFeature
without_texts (Question.flag key) = asked.Flag
without_texts (Question.key_value key value) = asked.KeyValue

-- the text that a predicate on the target asks for; it is empty if its value is no text
abbrev pub target_text : TargetQuestion → List ℕ
target_text (TargetQuestion.text key text) = text
target_text _ = []

-- the key, if it has no meaning of its own; else an empty text
abbrev pub key_of : Question → List ℕ
key_of (Question.flag key) = key
key_of (Question.key_value key value) = key
key_of _ = []

-- the value, if it is a text; else an empty one
abbrev pub value_of : Question → List ℕ
value_of (Question.target question) = target_text question
value_of (Question.feature text) = text
value_of (Question.target_feature text) = text
value_of (Question.key_value key value) = value
value_of _ = []

-- the predicate on the target with the text
abbrev pub target_with : List ℕ → AskedTarget → TargetQuestion
target_with text (target.Text key) = TargetQuestion.text key text
target_with text (target.Endian order) = TargetQuestion.endian order
target_with text (target.HasAtomic width) = TargetQuestion.has_atomic width
target_with text (target.PointerWidth bits) = TargetQuestion.pointer_width bits

-- the predicate with the texts of its key and its value
abbrev pub question_with : List ℕ → List ℕ → Asked → Question
question_with key value (asked.Target question) = Question.target (target_with value question)
question_with key value asked.Test = Question.test
question_with key value asked.DebugAssertions = Question.debug_assertions
question_with key value asked.ProcMacro = Question.proc_macro
question_with key value asked.Feature = Question.feature value
question_with key value asked.TargetFeature = Question.target_feature value
question_with key value asked.Flag = Question.flag key
question_with key value asked.KeyValue = Question.key_value key value
