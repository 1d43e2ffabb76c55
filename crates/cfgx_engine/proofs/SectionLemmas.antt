-- The output of lines, line by line.
use Rattle.std.proofs.Common.{◌≡◌, ◌≤◌, ℕ, ◌+◌, Bool, true, false, List, [], ◌∷◌, ◌++◌, length, map}
use Rattle.std.proofs.Common.{refl, ap, sym, Option, Some, None, Result, Ok, Err, append_assoc}
use Rattle.std.{proofs.lemmas.Iterator.YieldsList, specs.List.concat, specs.List.enumerate_from}
use Rattle.std.{specs.Str.Pattern.FindsChar, specs.declared.str.Split.Split}
use Rattle.std.specs.{Prelude.string_bytes, Str.Iter.split_steps, Str.Lines.strip_carriage_return}
use Rattle.cfgx_grammar.specs.{Question.Question, Tree.Tree}
use Rattle.cfg_expr.specs.{Deciding.IsDecision, declared.expr.Decision.Decision}
use Rattle.cfg_expr.specs.declared.expr.Decision.TheVariants as decision
use Rattle.cfgx_engine.specs.internal.AddsLine.{IfMessage, decision_text}
use Rattle.cfgx_engine.specs.{declared.engine.sections.LineError.LineError, Input.input_limit}
use Rattle.cfgx_engine.specs.{Output.Output, Output.faulty_output, Readings.GivesAll}
use Rattle.cfgx_engine.proofs.ReadingLemmas.{first_fails, later_fails}
use Rattle.cfgx_engine.specs.Sections.{Line, PrintsLine, PrintsLines, line_of, verdict_lines}
use Rattle.cfgx_engine.specs.declared.engine.sections.LineError.TheVariants as line_error

-- the output if the lines so far have printed `front`
abbrev pub rest_output : List ℕ → Result (List (List ℕ)) (List ℕ) → Output
rest_output front (Ok printed) = record { bytes = front ++ concat printed; status = 0 }
rest_output front (Err text) = faulty_output text

abbrev pub PrintsRest : (Question → Option Bool) → ℕ → List Line → List ℕ → Output → Type 0
PrintsRest answer number lines front shown = (printed : Result (List (List ℕ)) (List ℕ))
    × GivesAll (PrintsLine answer) (enumerate_from number lines) printed
    × (shown ≡ rest_output front printed)

-- the line in a piece between line feeds
abbrev pub piece_line : List ℕ → Line
piece_line piece = line_of (strip_carriage_return piece)

module _ (answer : Question → Option Bool) (number : ℕ) (line : Line) {pieces : List (List ℕ)}
    (piece : List ℕ) (others : List (List ℕ)) (are : pieces ≡ piece ∷ others)
    (is_line : line ≡ piece_line piece) (front text : List ℕ) where
  -- the next line prints a text
  pub PrintsRest-more : (shown : Output) → PrintsLine answer (number, line) (Ok text)
      → PrintsRest answer (number + 1) (map line_of (map strip_carriage_return others))
      (front ++ text) shown
      → PrintsRest answer number (map line_of (map strip_carriage_return pieces)) front shown
  PrintsRest-more shown prints (Ok printed, rest, is) =
      let one = rw is_line at prints in
      rw are (Ok (text ∷ printed), (one, rest), rw append_assoc at is)
  PrintsRest-more shown prints (Err message, rest, is) =
      let one = rw is_line at prints in
      rw are (Err message, later_fails (PrintsLine answer) _ text _ message one rest, is)

  -- the next line is faulty
  pub PrintsRest-fault : (shown : Output) → PrintsLine answer (number, line) (Err text)
      → shown ≡ faulty_output text
      → PrintsRest answer number (map line_of (map strip_carriage_return pieces)) front shown
  PrintsRest-fault shown prints is =
      let one = rw is_line at prints in
      rw are (Err text, first_fails (PrintsLine answer) _ _ text one, is)

-- the output of all lines is that of the rest if no line was printed
pub PrintsLines-rest : (answer : Question → Option Bool) (lines : List Line) (shown : Output)
    → PrintsRest answer 1 lines [] shown → PrintsLines answer lines shown
PrintsLines-rest answer lines shown (Ok printed, rest, is) = (Ok printed, rest, is)
PrintsLines-rest answer lines shown (Err text, rest, is) = (Err text, rest, is)

-- the pieces that are still to come, few enough to count, and the output if these are printed
pub record Left (answer : Question → Option Bool) (all : List (List ℕ)) (state : Split ℕ)
    (number : ℕ) (front : List ℕ) : Type 0 where
  pub pieces : List (List ℕ)
  pub yields : YieldsList (split_steps FindsChar (λ old new. new ≡ old)) (λ piece. piece.now) state
      pieces
  pub few : number + length pieces ≤ input_limit + 1
  pub prints : (shown : Output) → PrintsRest answer (number + 1)
      (map line_of (map strip_carriage_return pieces)) front shown
      → PrintsLines answer (map line_of all) shown

-- a call that yields an item yields the first of those to come, and leaves the others
module _ {S A B : Type 0} {steps : S → Option A → S → Type 0} {seen : A → B} {state : S} where
  pub yields-some : (items : List B) → YieldsList steps seen state items → (item : A) (next : S)
      → steps state (Some item) next
      → (others : List B) × (items ≡ seen item ∷ others) × YieldsList steps seen next others
  yields-some [] yields item next step = absurd (yields.runs item next step)
  yields-some (first ∷ others) yields item next step =
      let is = yields.runs.1 item next step in
      (others, ap (λ x. x ∷ others) (sym is.0), record { runs = is.1 })

  pub yields-none : (items : List B) → YieldsList steps seen state items → (next : S)
      → steps state None next → items ≡ []
  yields-none [] yields next step = refl
  yields-none (first ∷ others) yields next step = absurd (yields.runs.0 next step)

-- what is printed behind a name is the decision
pub verdict_lines-decision : {X A : Type 0} (tree : Tree X) (answers : List (Option Bool))
    (given : Decision A) → IsDecision {A = A} tree answers given
    → decision_text {A = A} given ≡ verdict_lines tree answers
verdict_lines-decision tree answers (decision.Known true) is = rw is refl
verdict_lines-decision tree answers (decision.Known false) is = rw is refl
verdict_lines-decision tree answers (decision.Unknown if_true if_false) is =
    rw (is.0, is.1, is.2) refl

-- `IfMessage` of a weaker fact
pub IfMessage-weaker : {A : Type 0} (This That : List ℕ → Type 0) (failed : LineError A)
    → ((text : List ℕ) → This text → That text) → IfMessage {A = A} This failed
    → IfMessage {A = A} That failed
IfMessage-weaker This That (line_error.Faulty text) weaker tells = weaker (string_bytes text) tells
IfMessage-weaker This That (line_error.Memory error) weaker tells = tt
