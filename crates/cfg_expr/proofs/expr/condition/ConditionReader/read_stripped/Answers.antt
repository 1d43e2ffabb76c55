-- The parser begins anew, and what it reads is what the grammar answers.
use Rattle.std.proofs.{Common.{Err, rules, ap, ◌∙◌}, lemmas.Result.err_from_is_err_and}
use Rattle.cfgx_parser.proofs.Whole.{Begins, Answers-fails, Answers-memory, Accepted, Short-read}
use Rattle.cfg_expr.proofs.expr.condition.ConditionReader.read_stripped.Given.{Over}
use Rattle.cfg_expr.proofs.expr.condition.ConditionReader.read_stripped.Goals.{After-read_all}
use Rattle.cfg_expr.proofs.expr.condition.ConditionReader.read_stripped.Goals as goal

-- the parser starts at the text's start
begins : (g : Over) (c : After-read_all g) → Begins {A = g.row.A.Denot} c.args.stripped.text.now
    c.of_stripped-lexer.result c.begin.new.parser
begins g c = search rules

pub returns-in_err-begin-clause-answers : goal.returns-in_err-begin-clause-answers
returns-in_err-begin-clause-answers g c =
    Answers-memory c.args.stripped.text.now c.of_stripped-lexer.ensures.one _
    c.from_residual.result c.from_residual.ensures.1

pub returns-in_err-read_all-clause-answers : goal.returns-in_err-read_all-clause-answers
returns-in_err-read_all-clause-answers g c =
    let p = err_from_is_err_and c.from_residual-in_err-read_all.result
    c.from_residual-in_err-read_all.ensures.1 in
    rw (p.1, p.2) (Answers-fails c.read_all.new.self c.in_err-read_all.field-0.0
    (begins g (goal.at.returns-in_err-read_all-clause-answers g c).After-read_all)
    c.in_err-read_all.ensures.reads)

pub invariant_of-result : goal.invariant_of-result
invariant_of-result g c =
    let begun = begins g (goal.at.invariant_of-result g c).After-read_all in
    let same = c.original-original.ensures ∙ ap (λ l. l.text) begun.lexer_is in
    rw (same, c.nodes.ensures, c.places.ensures)
    (Accepted c.read_all.new.self begun c.in_ok-read_all.ensures.reads).0

pub returns-clause-answers : goal.returns-clause-answers
returns-clause-answers g c =
    let begun = begins g (goal.at.returns-clause-answers g c).After-read_all in
    let same = c.original-original.ensures ∙ ap (λ l. l.text) begun.lexer_is in
    let accepted = Accepted c.read_all.new.self begun c.in_ok-read_all.ensures.reads in
    (same, accepted.1, accepted.2)

pub returns-in_err-read_all-clause-short : goal.returns-in_err-read_all-clause-short
returns-in_err-read_all-clause-short g c is_new one short =
    let p = err_from_is_err_and c.from_residual-in_err-read_all.result
    c.from_residual-in_err-read_all.ensures.1 in
    rw p.1 (Short-read {A = g.row.A.Denot} (Err c.in_err-read_all.field-0.0)
    (begins g (goal.at.returns-in_err-read_all-clause-short g c).After-read_all) one short
    c.in_err-read_all.ensures.short)
