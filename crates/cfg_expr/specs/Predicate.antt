-- A predicate of the program as a question, without the addresses of its texts.
use Rattle.cfgx_fields.specs.declared.text_key.TextKey.TheVariants as key
use Rattle.cfgx_grammar.specs.Question.{Question, TargetQuestion}
use Rattle.cfg_expr.specs.declared.expr.predicates.TargetPredicate.{TargetPredicate}
use Rattle.cfg_expr.specs.declared.expr.predicates.TargetPredicate.TheVariants as target
use Rattle.cfg_expr.specs.declared.expr.predicates.Predicate.{Predicate}
use Rattle.cfg_expr.specs.declared.expr.predicates.Predicate.TheVariants as predicate

abbrev pub target_of : {A : Type 0} → TargetPredicate A → TargetQuestion
target_of (target.Abi text) = TargetQuestion.text key.Abi text
target_of (target.Arch text) = TargetQuestion.text key.Arch text
target_of (target.Endian endian) = TargetQuestion.endian endian
target_of (target.Env text) = TargetQuestion.text key.Env text
target_of (target.Family text) = TargetQuestion.text key.Family text
target_of (target.HasAtomic atomic) = TargetQuestion.has_atomic atomic
target_of (target.Os text) = TargetQuestion.text key.Os text
target_of (target.Panic text) = TargetQuestion.text key.Panic text
target_of (target.PointerWidth width) = TargetQuestion.pointer_width width
target_of (target.Vendor text) = TargetQuestion.text key.Vendor text

abbrev pub question_of : {A : Type 0} → Predicate A → Question
question_of (predicate.Target question) = Question.target (target_of question)
question_of predicate.Test = Question.test
question_of predicate.DebugAssertions = Question.debug_assertions
question_of predicate.ProcMacro = Question.proc_macro
question_of (predicate.Feature text) = Question.feature text.now
question_of (predicate.TargetFeature text) = Question.target_feature text.now
question_of (predicate.Flag key) = Question.flag key.now
question_of (predicate.KeyValue key value) = Question.key_value key.now value.now
