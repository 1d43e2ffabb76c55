use Rattle.std.proofs.Common.{◌∙◌, sym}
use Rattle.std.proofs.lemmas.Result.{MatchResult-weaker}
use Rattle.cfgx_engine.specs.{internal.Shows.output_view, Output.answer_on, Output.HasValueBy}
use Rattle.cfgx_engine.proofs.OutputLemmas.{result_output-shown}
use Rattle.cfgx_engine.proofs.RowLemmas.{answer_on-same, builtin-same}
use Rattle.cfgx_engine.proofs.engine.output.target_output.Goals as goal

-- the row that was found is the built-in one
pub returns : goal.returns
returns g c =
    let target = c.in-Some.target in
    let IsValue = HasValueBy (answer_on {A = g.row.A.Denot} target) c.args.text.now in
    rw (
      builtin-same _ _ (sym c.in-Some.is ∙ c.in_ok-target.ensures),
      ← answer_on-same {A = g.row.A.Denot} target,
    ) (MatchResult-weaker c.result_output.result c.result_output.ensures (λ output shows.
    result_output-shown {A = g.row.A.Denot} IsValue c.parse_and_eval.result (output_view output)
    c.parse_and_eval.ensures shows) (λ error none. none))

pub returns-in_default : goal.returns-in_default
returns-in_default g c =
    rw (builtin-same _ _ (sym c.in_default.is ∙ c.in_ok-target.ensures)) c.constant.ensures
