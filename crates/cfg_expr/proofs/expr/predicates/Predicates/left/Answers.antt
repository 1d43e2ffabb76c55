-- Each predicate that is left asks a question.
use Rattle.std.proofs.Common.{sym, ap, ◌∙◌, length}
use Rattle.std.proofs.lemmas.List.{length-map}
use Rattle.cfgx_parser.specs.Located.{question_at}
use Rattle.cfg_expr.proofs.expr.predicates.Predicates.left.Goals as goal

pub returns : goal.returns
returns c =
    let inside = c.self.inside in
    c.left.ensures ∙ sym (length-map inside.located (question_at inside.text.now))
    ∙ ap length c.self.view_is
