use Rattle.std.proofs.lemmas.Result.{MatchResult-weaker}
use Rattle.cfgx_engine.specs.{internal.Shows.output_view, Output.HasValueByFlags, Request.texts}
use Rattle.cfgx_engine.proofs.OutputLemmas.{result_output-shown}
use Rattle.cfgx_engine.proofs.engine.output.eval_output.Goals as goal

pub returns : goal.returns
returns g c =
    let IsValue = HasValueByFlags c.args.text.now (texts c.args.flags.now) in
    MatchResult-weaker c.result_output.result c.result_output.ensures (λ output shows.
    result_output-shown {A = g.row.A.Denot} IsValue c.eval_with_flags.result (output_view output)
    c.eval_with_flags.ensures shows) (λ error none. none)
