-- The input of `pick`, which has a section on each line, and what is printed for it.
-- Source of the rules: docs/RULES.md.
use Rattle.std.specs.Prelude.{◌≡◌, ◌==◌, ℕ, Bool, true, false, List, [], ◌++◌}
use Rattle.std.specs.Prelude.{codes, length, map, nat_lt, Option, Some, None, Result, Ok, Err}
use Rattle.std.specs.Prelude.{if◌then◌else◌}
use Rattle.std.specs.Fmt.{decimal}
use Rattle.std.specs.List.{after_first, before_first, concat, enumerate_from, flat_map}
use Rattle.std.specs.List.{position_or_len, slice_split}
use Rattle.std.specs.Str.Lines.{strip_carriage_return}
use Rattle.cfgx_syntax.specs.Error.{TextFault, error_text}
use Rattle.cfgx_grammar.specs.Question.{Question}
use Rattle.cfgx_grammar.specs.Tree.{Tree, asked}
use Rattle.cfg_expr.specs.Filling.{polar, three_valued}
use Rattle.cfg_expr.specs.Fold.{tree_fold}
use Rattle.cfgx_engine.specs.Output.{Output, faulty_output}
use Rattle.cfgx_engine.specs.Readings.{GivesAll, ParsesAs}

-- the pieces of an input between line feeds, each without one carriage return at its end
abbrev pub lines_of : List ℕ → List (List ℕ)
lines_of input = map strip_carriage_return (slice_split (λ byte. byte == 10) input)

-- a line, cut at its first tab
pub data Line : Type 0 where
  empty : Line
  -- it has bytes, but no tab
  undivided : Line
  -- a section's name and its condition, with the first tab between them
  section : List ℕ → List ℕ → Line

abbrev pub is_tab : ℕ → Bool
is_tab byte = byte == 9

abbrev pub line_of : List ℕ → Line
line_of text =
    if length text == 0 then Line.empty
    else if nat_lt (position_or_len is_tab text) (length text)
    then Line.section (before_first is_tab text) (after_first is_tab text)
    else Line.undivided

-- a filling in digits: `1` for true, `0` for false
abbrev pub digits : List Bool → List ℕ
digits filling = flat_map (λ filled. if filled then codes "1" else codes "0") filling

-- a filling behind a text, as a line of their own
abbrev pub filling_line : List ℕ → List Bool → List ℕ
filling_line text filling = text ++ digits filling ++ codes "\n"

-- what is printed behind a section's name: the verdict and, if it is unknown, two fillings that
-- show why
abbrev pub verdict_text : Option Bool → List Bool → List Bool → List ℕ
verdict_text (Some true) with_true with_false = codes "\tyes\n"
verdict_text (Some false) with_true with_false = codes "\tno\n"
verdict_text None with_true with_false = codes "\tunknown\n"
    ++ filling_line (codes "\ttrue with ") with_true
    ++ filling_line (codes "\tfalse with ") with_false

-- what is printed behind the name for a tree with these answers
abbrev pub verdict_lines : {X : Type 0} → Tree X → List (Option Bool) → List ℕ
verdict_lines tree answers = verdict_text (tree_fold three_valued tree answers)
    (polar tree answers true) (polar tree answers false)

-- the message for a line without a tab
abbrev pub no_tab : ℕ → List ℕ
no_tab number = codes "line " ++ decimal number ++ codes ": no tab\n"

-- the message for a line whose condition has a fault
abbrev pub line_fault : ℕ → TextFault → List ℕ
line_fault number fault =
    codes "line " ++ decimal number ++ codes ":\n" ++ error_text fault ++ codes "\n"

-- what is printed for a section, by the reading of its condition and the answers. The error is the
-- message of the fault
abbrev pub section_text : (Question → Option Bool) → ℕ → List ℕ → Result (Tree Question) TextFault
    → Result (List ℕ) (List ℕ)
section_text answer number name (Ok tree) =
    Ok (name ++ verdict_lines tree (map answer (asked tree)))
section_text answer number name (Err fault) = Err (line_fault number fault)

-- what is printed for a line with these answers. The error is the message of its fault
abbrev pub PrintsLine : (Question → Option Bool) → ℕ × Line → Result (List ℕ) (List ℕ) → Type 0
PrintsLine answer (number, Line.empty) printed = printed ≡ Ok []
PrintsLine answer (number, Line.undivided) printed = printed ≡ Err (no_tab number)
PrintsLine answer (number, Line.section name condition) printed =
    (reading : Result (Tree Question) TextFault) × ParsesAs condition reading
    × (printed ≡ section_text answer number name reading)

-- the output of all lines: what is printed for each, or the message of the first faulty one
abbrev pub lines_output : Result (List (List ℕ)) (List ℕ) → Output
lines_output (Ok printed) = record { bytes = concat printed; status = 0 }
lines_output (Err text) = faulty_output text

-- the output of these lines, which are numbered from 1
abbrev pub PrintsLines : (Question → Option Bool) → List Line → Output → Type 0
PrintsLines answer lines output = (printed : Result (List (List ℕ)) (List ℕ))
    × GivesAll (PrintsLine answer) (enumerate_from 1 lines) printed
    × (output ≡ lines_output printed)
