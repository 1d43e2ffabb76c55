use Rattle.std.proofs.Common.{arith}
use Rattle.std.proofs.lemmas.Result.{err_from_is_err_and}
use Rattle.cfgx_parser.proofs.FewTokens.{Reads-token, Reads-many, Reads-fault, Reads-end}
use Rattle.cfgx_parser.proofs.unaskable.few_tokens.Goals as goal

pub returns-in_err-found : goal.returns-in_err-found
returns-in_err-found g c =
    let p = err_from_is_err_and c.from_residual.result c.from_residual.ensures.1 in
    let gives = rw c.in_err-found.was at c.in-Some.ensures.steps in
    rw (p.1, p.2) (Reads-fault c.loop-lexed.invariant {A = g.row.A.Denot} c.in_err-found.field-0.0
    c.next.new.self gives)

pub returns-then-len-eq3 : goal.returns-then-len-eq3
returns-then-len-eq3 g c =
    let gives = rw c.in_ok-found.was at c.in-Some.ensures.steps in
    Reads-many c.loop-lexed.invariant c.in_ok-found.found c.next.new.self gives
    (grind (arith, c.len.ensures, c.if-len-eq3.true))

pub loop-lexed-preserved : goal.loop-lexed-preserved
loop-lexed-preserved g c =
    let gives = rw c.in_ok-found.was at c.in-Some.ensures.steps in
    rw c.in_ok-push.ensures.items (Reads-token c.loop-lexed.invariant c.in_ok-found.found
    c.next.new.self gives)

pub returns : goal.returns
returns g c = Reads-end c.loop-lexed.invariant c.in-None.ensures.steps.0
