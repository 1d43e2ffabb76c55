use Rattle.std.proofs.Common.{ap, refl, Ok, Err}
use Rattle.std.proofs.{lemmas.Option.IfSome_then, lemmas.Result.err_from_is_err_and}
use Rattle.cfgx_engine.{specs.Output.{answer_on, HasValueBy}, proofs.OutputLemmas.Fails-parse}
use Rattle.cfgx_engine.proofs.engine.output.parse_and_eval.Goals as goal

pub returns-in_err-condition : goal.returns-in_err-condition
returns-in_err-condition g c =
    let p = err_from_is_err_and c.from_residual.result c.from_residual.ensures.1 in
    let Valued = HasValueBy (answer_on {A = g.row.A.Denot} c.args.target.now) c.args.text.now in
    rw (p.1, p.2) (IfSome_then _ {Q = λ fault. Valued (Err fault)}
    (Fails-parse {A = g.row.A.Denot} c.args.text.now _ c.in_err-condition.ensures)
    (λ fault reads. (Err fault, reads, refl)))

pub returns : goal.returns
returns g c =
    let valued = rw c.in_ok-condition.ensures.0 at c.in_ok-eval_on_target.ensures in
    (Ok valued.one.tree, valued.one.reads, ap Ok valued.value_is)
