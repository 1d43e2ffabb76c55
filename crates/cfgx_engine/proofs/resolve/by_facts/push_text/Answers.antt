use Rattle.std.proofs.{lemmas.Result.err_from_is_err_and}
use Rattle.cfgx_engine.proofs.OutputLemmas.{Fails-parse}
use Rattle.cfgx_engine.proofs.resolve.by_facts.push_text.Goals as goal

pub returns-in_err-condition-clause-err : goal.returns-in_err-condition-clause-err
returns-in_err-condition-clause-err g c =
    let p = err_from_is_err_and c.from_residual.result c.from_residual.ensures.1 in
    rw (p.1, p.2)
    (Fails-parse {A = g.row.A.Denot} c.args.text.now _ c.in_err-condition.ensures.answers)

pub returns-clause-values : goal.returns-clause-values
returns-clause-values g c =
    rw c.in_ok-condition.ensures.answers.0 at c.in_ok-push_batches.ensures
