-- The text is read from its start, and what is read is what the grammar answers.
use Rattle.std.proofs.{Common.{rules, ap, ◌∙◌}, lemmas.Result.err_from_is_err_and}
use Rattle.cfgx_syntax.specs.Stripping.{strip}
use Rattle.cfgx_parser.proofs.Whole.{Begins, Answers-fails, Answers-memory, Accepted}
use Rattle.cfg_expr.proofs.expr.Expression.parse.{Given.Over, Goals.After-read_all}
use Rattle.cfg_expr.proofs.expr.Expression.parse.Goals as goal

-- the parser starts at the text's start
begins : (g : Over) (c : After-read_all g) → Begins {A = g.row.A.Denot} (strip c.args.text.now)
    c.new-lexer.result c.new-parser.result
begins g c = search rules

pub returns-in_err-read_all : goal.returns-in_err-read_all
returns-in_err-read_all g c =
    let p = err_from_is_err_and c.from_residual.result
    c.from_residual.ensures.1 in
    rw (p.1, p.2) (Answers-fails c.read_all.new.self c.in_err-read_all.field-0.0
    (begins g (goal.at.returns-in_err-read_all g c).After-read_all) c.in_err-read_all.ensures.reads)

pub returns-in_err-original : goal.returns-in_err-original
returns-in_err-original g c = Answers-memory (strip c.args.text.now) c.new-lexer.ensures.one _
    c.from_residual-in_err-original.result c.from_residual-in_err-original.ensures.1

pub invariant_of-result : goal.invariant_of-result
invariant_of-result g c =
    let begun = begins g (goal.at.invariant_of-result g c).After-read_all in
    let same = c.in_ok-original.ensures.ok ∙ c.original-original.ensures
    ∙ ap (λ l. l.text) begun.lexer_is in
    rw (same, c.into_parts-nodes.ensures.nodes, c.into_parts-nodes.ensures.places)
    (Accepted c.read_all.new.self begun c.in_ok-read_all.ensures.reads).0

pub returns : goal.returns
returns g c =
    let begun = begins g (goal.at.returns g c).After-read_all in
    let same = c.in_ok-original.ensures.ok ∙ c.original-original.ensures
    ∙ ap (λ l. l.text) begun.lexer_is in
    let accepted = Accepted c.read_all.new.self begun c.in_ok-read_all.ensures.reads in
    (same, accepted.1, accepted.2)
