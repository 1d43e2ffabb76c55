-- What `cfgx_run` returns and writes.
-- Source: include/cfgx.h for the call; docs/RULES.md for the output that a request has.
use Rattle.std.specs.Prelude.{◌≡◌, ℕ, List}
use Rattle.cfgx_engine.specs.Output.{Output}
use Rattle.cfgx_engine.specs.Prints.{Prints}
use Rattle.cfgx_engine.specs.Request.{request_of}
use Rattle.cfgx_c.specs.Buffer.{Fills}

-- the buffer was filled with the output that the words have on the input, which has this status
abbrev pub Runs : List (List ℕ) → List ℕ → ℕ → List ℕ → List ℕ → ℕ → Type 0
Runs words input status old new needed =
    (output : Output) × Prints (request_of words) input output × (output.status ≡ status)
    × Fills output.bytes old new needed
