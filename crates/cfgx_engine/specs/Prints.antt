-- The output of each request on an input.
-- Source of the rules: docs/RULES.md; of what a predicate, a value and a fault are, the crate
-- cfg-expr.
use Rattle.std.specs.Prelude.{◌≡◌, ◌<◌, ◌≤◌, ℕ, Bool, List, codes, length, map}
use Rattle.std.specs.Prelude.{Option, Some, IsSome, MatchOption, Result}
use Rattle.std.specs.Str.{IsUtf8}
use Rattle.std.specs.Io.KnownBytes.{Appends, Keeps}
use Rattle.std.specs.declared.alloc.Global.{Global}
use Rattle.cfgx_targets.specs.Builtins.{builtin_rows}
use Rattle.cfgx_targets.specs.Table.{row_with}
use Rattle.cfgx_syntax.specs.Error.{TextFault}
use Rattle.cfgx_grammar.specs.Question.{Question}
use Rattle.cfgx_grammar.specs.Tree.{Tree}
use Rattle.cfgx_engine.specs.Input.{input_limit}
use Rattle.cfgx_engine.specs.Output.{HasValueByFlags, HasValueBy, Output, answer_on, result_output}
use Rattle.cfgx_engine.specs.Output.{text_line, faulty_output, tree_output, unknown_triple, usage}
use Rattle.cfgx_engine.specs.Readings.{ParsesAs}
use Rattle.cfgx_engine.specs.Request.{Request}
use Rattle.cfgx_engine.specs.Sections.{PrintsLines, line_of, lines_of}
use Rattle.cfgx_engine.specs.Streams.{TakesFront}

abbrev pub too_long : Output
too_long = faulty_output (text_line (codes "input too long"))

abbrev pub input_not_utf8 : Output
input_not_utf8 = faulty_output (text_line (codes "input is not UTF-8"))

-- the output of `pick` on the input, with these answers
pub record Picks (answer : Question → Option Bool) (input : List ℕ) (output : Output) : Type 0 where
  pub of_long : input_limit < length input → output ≡ too_long
  pub of_other_bytes : length input ≤ input_limit → ¬ IsUtf8 input → output ≡ input_not_utf8
  pub of_text : length input ≤ input_limit → IsUtf8 input
      → PrintsLines answer (map line_of (lines_of input)) output

-- the output of `pick` on the input that a source holds, or on some input if the source does not
-- tell its bytes
abbrev pub PicksInput : (Question → Option Bool) → Option (List ℕ) → Output → Type 0
PicksInput answer held output =
    (input : List ℕ) × Keeps held (Some input) × Picks answer input output

-- the output of the request on the input
abbrev pub Prints : Request → List ℕ → Output → Type 0
Prints (Request.parse text) input output =
    (reading : Result (Tree Question) TextFault) × ParsesAs text reading
    × (output ≡ tree_output reading)
Prints (Request.eval text flags) input output = (value : Result (Option Bool) TextFault)
    × HasValueByFlags text flags value × (output ≡ result_output value)
Prints (Request.target triple text) input output =
    MatchOption (row_with {A = Global} triple builtin_rows) (output ≡ unknown_triple)
    (λ target. (value : Result (Option Bool) TextFault) × HasValueBy (answer_on target) text value
    × (output ≡ result_output value))
Prints (Request.pick triple) input output =
    MatchOption (row_with {A = Global} triple builtin_rows) (output ≡ unknown_triple)
    (λ target. Picks (answer_on target) input output)
Prints Request.wrong_use input output = output ≡ usage

-- the request reads its input
abbrev pub TakesInput : Request → Type 0
TakesInput (Request.pick triple) = IsSome (row_with {A = Global} triple builtin_rows)
TakesInput request = ⊥

-- the output of the request on the input that a source holds, or on some input if the source does
-- not tell its bytes
abbrev pub PrintsInput : Request → Option (List ℕ) → Output → Type 0
PrintsInput request held output =
    (input : List ℕ) × Keeps held (Some input) × Prints request input output

-- The sink has taken the whole output of the request, which has this status. Nothing is said of the
-- bytes of a sink that does not tell them.
abbrev pub WritesWhole : Request → Option (List ℕ) → ℕ → Option (List ℕ) → Option (List ℕ) → Type 0
WritesWhole request held status old new = (output : Output) × PrintsInput request held output
    × (output.status ≡ status) × Appends old new output.bytes

-- the sink has taken a prefix of the output of the request, which may be empty or all of it
abbrev pub WritesFront : Request → Option (List ℕ) → Option (List ℕ) → Option (List ℕ) → Type 0
WritesFront request held old new = (output : Output) × PrintsInput request held output
    × TakesFront old new output.bytes
