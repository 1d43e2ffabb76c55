use Rattle.std.proofs.lemmas.Result.{IfOk-weaker}
use Rattle.cfgx_engine.proofs.engine.output.input_output.Goals as goal

-- the text has the bytes of the input
pub returns-in-Ok : goal.returns-in-Ok
returns-in-Ok g c =
    let cases = c.in-Ok.ensures.cases in
    rw (c.in-Bytes.is, ← c.as_slice.ensures.value) (IfOk-weaker c.sections_output.result _ _
    (λ output prints. (λ not. absurd (not cases.1), λ utf8. rw (← cases.0) prints))
    c.sections_output.ensures)

pub returns-in-Bytes : goal.returns-in-Bytes
returns-in-Bytes g c =
    rw (c.in-Bytes.is, ← c.as_slice.ensures.value)
    (λ other. c.constant.ensures, λ utf8. absurd (c.in-Err.ensures.cases.0 utf8))
