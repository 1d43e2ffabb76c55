-- Each token of the lexer is the next one of the text, and the parser computes its step.
use Rattle.std.{proofs.Common.Ok, proofs.Common.Err, proofs.lemmas.Result.err_from_is_err_and}
use Rattle.cfgx_parser.proofs.ReadTokens.{LeadsTo-read, ReadsAll-read, ReadsAll-fault, ReadsAll-end}
use Rattle.cfgx_parser.proofs.ReadTokens.{ReadsShort-read, ReadsShort-fault, ReadsShort-end}
use Rattle.cfgx_parser.proofs.parser.Parser.read_all.Goals as goal

pub returns-in_err-lexed-clause-reads : goal.returns-in_err-lexed-clause-reads
returns-in_err-lexed-clause-reads g c =
    let p = err_from_is_err_and c.from_residual.result c.from_residual.ensures.1 in
    let gives = rw c.in_err-lexed.was at c.in-Some.ensures.steps in
    rw (p.1, p.2) (ReadsAll-fault {A = g.row.A.Denot} c.loop-lexed.invariant c.loop-lexed.self
    c.next.new.self c.in_err-lexed.field-0.0 gives)

pub loop-lexed-preserved : goal.loop-lexed-preserved
loop-lexed-preserved g c =
    let gives = rw c.in_ok-lexed.was at c.in-Some.ensures.steps in
    rw c.of-last.ensures (LeadsTo-read {A = g.row.A.Denot} c.loop-lexed.invariant c.read.new.self
    c.next.new.self c.in_ok-lexed.lexed gives c.in_default.ensures)

pub returns-in-Err-clause-reads : goal.returns-in-Err-clause-reads
returns-in-Err-clause-reads g c =
    let gives = rw c.in_ok-lexed.was at c.in-Some.ensures.steps in
    ReadsAll-read {A = g.row.A.Denot} c.loop-lexed.invariant c.read.new.self c.next.new.self _
    c.failure.result gives (rw c.original-text.ensures at (c.failure.ensures _ _ c.in-Err.ensures))

pub returns-in-Ok-clause-reads : goal.returns-in-Ok-clause-reads
returns-in-Ok-clause-reads g c =
    ReadsAll-end {A = g.row.A.Denot} c.loop-lexed.invariant c.finish.new.self _ (Ok tt)
    c.original-text.ensures c.in-None.ensures.steps.0 c.in-Ok.ensures

pub returns-in-Err-finish-clause-reads : goal.returns-in-Err-finish-clause-reads
returns-in-Err-finish-clause-reads g c =
    ReadsAll-end {A = g.row.A.Denot} c.loop-lexed.invariant c.finish.new.self _
    (Err c.failure-in-Err-finish.result) c.original-text.ensures c.in-None.ensures.steps.0
    (c.failure-in-Err-finish.ensures _ _ c.in-Err-finish.ensures)

pub returns-in_err-lexed-clause-short : goal.returns-in_err-lexed-clause-short
returns-in_err-lexed-clause-short g c =
    let p = err_from_is_err_and c.from_residual.result c.from_residual.ensures.1 in
    let gives = rw c.in_err-lexed.was at c.in-Some.ensures.steps in
    rw p.1 (ReadsShort-fault {A = g.row.A.Denot} c.loop-lexed.invariant c.loop-lexed.self
    c.next.new.self c.in_err-lexed.field-0.0 gives)

pub returns-in-Err-clause-short : goal.returns-in-Err-clause-short
returns-in-Err-clause-short g c =
    let gives = rw c.in_ok-lexed.was at c.in-Some.ensures.steps in
    ReadsShort-read {A = g.row.A.Denot} c.loop-lexed.invariant c.read.new.self c.next.new.self _ _
    c.failure.result gives c.in-Err.ensures

pub returns-in-Err-finish-clause-short : goal.returns-in-Err-finish-clause-short
returns-in-Err-finish-clause-short g c =
    ReadsShort-end {A = g.row.A.Denot} c.loop-lexed.invariant c.finish.new.self _ _
    c.failure-in-Err-finish.result c.original-text.ensures c.in-None.ensures.steps.0
    c.in-Err-finish.ensures
