-- Reading an input piece by piece, and the output for an input that was read.
use Rattle.std.specs.Prelude.{◌≡◌, ℕ, List, Bool, Option, map, length, ◌≤◌, ◌+◌, take, drop}
use Rattle.std.specs.Str.{IsUtf8}
use Rattle.cfgx_grammar.specs.Question.{Question}
use Rattle.cfgx_engine.specs.Output.{Output}
use Rattle.cfgx_engine.specs.Input.{input_limit}
use Rattle.cfgx_engine.specs.Prints.{input_not_utf8, too_long}
use Rattle.cfgx_engine.specs.Sections.{PrintsLines, line_of, lines_of}
use Rattle.cfgx_engine.specs.declared.engine.reading.Input.{Input}
use Rattle.std.specs.Io.KnownBytes.{Consumes, IsAtEnd}
use Rattle.cfgx_engine.specs.declared.engine.reading.Input.TheVariants as input

-- the first `filled` bytes were read, at most the limit, and the buffer has at most one byte more
-- than the limit
abbrev pub IsRoom : List ℕ → ℕ → Type 0
IsRoom bytes filled = (filled ≤ length bytes) × (length bytes ≤ input_limit + 1)
    × (filled ≤ input_limit)

-- one call read `count` bytes, which stand behind the first `filled` ones. It read none only at the
-- end
pub record ReadsMore (old new : Option (List ℕ)) (bytes : List ℕ) (filled count : ℕ) : Type 0 where
  pub within : filled + count ≤ length bytes
  pub consumes : Consumes old new (take count (drop filled bytes))
  pub at_end : count ≡ 0 → IsAtEnd new

-- the input has at most as many bytes as it may have
abbrev pub IsShort : {A : Type 0} → Input A → Type 0
IsShort (input.Bytes bytes) = length bytes.items ≤ input_limit
IsShort input.TooLong = Unit {0}

-- the output of `pick` on an input that was read, with these answers
abbrev pub PicksFrom : {A : Type 0} → (Question → Option Bool) → Input A → Output → Type 0
PicksFrom answer (input.Bytes bytes) output = (¬ IsUtf8 bytes.items → output ≡ input_not_utf8)
    × (IsUtf8 bytes.items → PrintsLines answer (map line_of (lines_of bytes.items)) output)
PicksFrom answer input.TooLong output = output ≡ too_long
