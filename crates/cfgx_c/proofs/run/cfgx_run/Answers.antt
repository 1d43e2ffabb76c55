-- The output is that of the words.
use Rattle.std.proofs.Common.{◌≡◌, ◌∙◌, ℕ, List, [], Some, arith, sym}
use Rattle.cfgx_engine.specs.{Output.Output, Prints.Prints, Prints.WritesWhole}
use Rattle.cfgx_engine.specs.Request.{Request, request_of, texts}
use Rattle.cfgx_c.specs.{Buffer.Fills, Ends.parts}
use Rattle.cfgx_c.proofs.RefusalLemmas.{not_all_utf8}
use Rattle.cfgx_c.proofs.run.cfgx_run.Goals as goal

-- what `WritesWhole` says if the source and the sink tell their bytes, and a buffer is filled with
-- those of the sink
filled_output : (request : Request) (old : List ℕ) {input kept new : List ℕ}
    {status result needed : ℕ}
    → WritesWhole request (Some input) status (Some []) (Some kept) → result ≡ status
    → Fills kept old new needed → (output : Output) × Prints request input output
    × (output.status ≡ result) × Fills output.bytes old new needed
filled_output request old (output, prints, status, appends) same fills =
    (output, rw prints.1 at prints.2, status ∙ sym same, rw appends at fills)

-- a word is not UTF-8
pub returns-in-Err-clause-not_utf8 : goal.returns-in-Err-clause-not_utf8
returns-in-Err-clause-not_utf8 c is =
    not_all_utf8 (parts c.args.word_ends.now c.args.words.now) c.in-Err.refusal is
    c.in-Err.ensures.err

pub returns-clause-run : goal.returns-clause-run
returns-clause-run c below =
    let writes = c.run.ensures.done (λ is. omega (arith, below, c.from-status.ensures, is)) in
    rw (← c.in-Ok.ensures.ok.0, ← c.as_slice.ensures.value)
    (filled_output (request_of (texts c.as_slice.result.now)) _
    (rw c.new-writer.ensures.0 at writes) c.from-status.ensures
    (rw c.as_slice-2.ensures.value at c.fill.ensures))
