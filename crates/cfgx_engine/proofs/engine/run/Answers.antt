use Rattle.cfgx_engine.specs.{internal.Shows.output_view, Request.request_of, Request.texts}
use Rattle.cfgx_engine.proofs.OneOutput.{Prints-decided}
use Rattle.cfgx_engine.proofs.engine.run.Goals as goal

pub write_output-requires-clause-status : goal.write_output-requires-clause-status
write_output-requires-clause-status g c =
    let prints = c.in-Ok.ensures.right in
    let shown = output_view {A = g.row.A.Denot} c.in-Ok.output in
    (Prints-decided (request_of (texts c.args.words.now)) prints.0 shown shown prints.2 prints.2).1
