-- The results of reading an input to its end.
-- Source of the rules for one call: the documentation of `std::io::Read::read`. Source of the
-- limit: docs/RULES.md.
use Rattle.std.specs.Prelude.{◌≡◌, ◌≤◌, ℕ, ◌+◌, ◌^◌, List, length}
use Rattle.std.specs.Prelude.{Option, Result, Ok, Err, Bool, nat_eq}
use Rattle.std.specs.Ordering.{on}
use Rattle.std.specs.Io.KnownBytes.{Consumes, IsAtEnd}
use Rattle.cfgx_engine.specs.declared.engine.reading.Input.{Input}
use Rattle.cfgx_engine.specs.declared.engine.reading.Input.TheVariants as input
use Rattle.cfgx_engine.specs.declared.engine.reading.Stop.{Stop}
use Rattle.cfgx_engine.specs.declared.engine.reading.Stop.TheVariants as stop

-- the most bytes that an input may have: 16 MiB
abbrev pub input_limit : ℕ
input_limit = 2 ^ 24

-- the number of a reason to stop
abbrev pub stop_number : Stop → ℕ
stop_number stop.Memory = 0
stop_number stop.Device = 1

-- whether two reasons to stop are the same
abbrev pub stop_eq : Stop → Stop → Bool
stop_eq = on stop_number nat_eq

-- the number of calls of the source that failed if reading ended with this result
abbrev pub stop_failures : {T : Type 0} → Result T Stop → ℕ
stop_failures (Ok _) = 0
stop_failures (Err stop.Memory) = 0
stop_failures (Err stop.Device) = 1

-- The bytes are all that the source gave, to its end. An input is too long if one byte more than
-- the limit was read. With an error a prefix of the input was read.
abbrev pub ReadsInput : {A : Type 0} → Option (List ℕ) → Option (List ℕ) → Result (Input A) Stop
    → Type 0
ReadsInput old new (Ok (input.Bytes bytes)) = (length bytes.items ≤ input_limit)
    × Consumes old new bytes.items × IsAtEnd new
ReadsInput old new (Ok input.TooLong) = (front : List ℕ) × (length front ≡ input_limit + 1)
    × Consumes old new front
ReadsInput old new (Err _) = (front : List ℕ) × (length front ≤ input_limit)
    × Consumes old new front

-- a prefix of the input was read, and stays read: at most one byte more than the limit
abbrev pub ReadsFront : Option (List ℕ) → Option (List ℕ) → Type 0
ReadsFront old new =
    (front : List ℕ) × (length front ≤ input_limit + 1) × Consumes old new front
