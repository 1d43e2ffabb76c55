use Rattle.std.proofs.{Common.Ok, Common.Err, lemmas.Result.MatchResult-weaker}
use Rattle.cfgx_syntax.specs.Error.{failure_of}
use Rattle.cfgx_engine.proofs.OutputLemmas.{Fails-parse, shown_fault}
use Rattle.cfgx_engine.proofs.engine.output.parse_output.Goals as goal

-- the predicates that are listed are those of the one tree
pub returns-in_ok-lines-in-Ok : goal.returns-in_ok-lines-in-Ok
returns-in_ok-lines-in-Ok g c =
    let asks = rw c.in-Ok.ensures.0 at c.predicates.ensures.asked in
    (Ok asks.0.tree, asks.0.reads, rw (c.done.ensures, c.in_ok-lines-in-Ok.ensures, asks.1))

pub returns-in-Err : goal.returns-in-Err
returns-in-Err g c =
    let fails = Fails-parse {A = g.row.A.Denot} c.args.text.now _ c.in-Err.ensures in
    MatchResult-weaker c.fault_output.result c.fault_output.ensures (λ output shows.
    let one = shown_fault (failure_of {A = g.row.A.Denot} c.in-Err.failure) fails shows in
    (Err one.0, one.1, one.2)) (λ error none. none)
