-- What a line adds to the output.
use Rattle.std.specs.Prelude.{◌≡◌, ℕ, List, [], ◌++◌, Bool, Option, Ok, map, Some, None}
use Rattle.std.specs.Prelude.{string_bytes}
use Rattle.cfgx_grammar.specs.Answer.{HasOneTree}
use Rattle.cfgx_grammar.specs.Question.{Question}
use Rattle.cfgx_grammar.specs.Tree.{asked}
use Rattle.cfg_expr.specs.declared.expr.Decision.{Decision}
use Rattle.cfgx_engine.specs.Output.{answer_on}
use Rattle.cfgx_engine.specs.Sections.{Line, PrintsLine, verdict_lines, verdict_text}
use Rattle.cfgx_engine.specs.declared.engine.sections.Line.{Line as CodeLine}
use Rattle.cfgx_engine.specs.declared.engine.sections.LineError.{LineError}
use Rattle.cfgx_targets.specs.declared.info.TargetInfo.{TargetInfo}
use Rattle.cfg_expr.specs.declared.expr.Decision.TheVariants as decision
use Rattle.cfgx_engine.specs.declared.engine.sections.Line.TheVariants as line
use Rattle.cfgx_engine.specs.declared.engine.sections.LineError.TheVariants as line_error

-- a line, without where its texts lie in memory
abbrev pub line_view : CodeLine → Line
line_view line.Empty = Line.empty
line_view line.Undivided = Line.undivided
line_view (line.Section name condition) = Line.section name.now condition.now

-- what is printed behind a section's name for a decision on its condition
abbrev pub decision_text : {A : Type 0} → Decision A → List ℕ
decision_text (decision.Known value) = verdict_text (Some value) [] []
decision_text (decision.Unknown if_true if_false) =
    verdict_text None if_true.items if_false.items

-- the verdict of the target on the condition is added
abbrev pub AddsVerdict : {A : Type 0} → TargetInfo A → List ℕ → List ℕ → List ℕ → Type 0
AddsVerdict target condition old new = (one : HasOneTree condition)
    × (new ≡ old ++ verdict_lines one.tree (map (answer_on target) (asked one.tree)))

-- what is printed for line `number` is added
abbrev pub AddsLine : (Question → Option Bool) → ℕ → Line → List ℕ → List ℕ → Type 0
AddsLine answer number line old new =
    (printed : List ℕ) × PrintsLine answer (number, line) (Ok printed) × (new ≡ old ++ printed)

-- `Holds` holds of the message. Out of memory there is none
abbrev pub IfMessage : {A : Type 0} → (List ℕ → Type 0) → LineError A → Type 0
IfMessage Holds (line_error.Faulty text) = Holds (string_bytes text)
IfMessage Holds (line_error.Memory error) = Unit {0}
