use Rattle.std.proofs.Common.{◌∙◌, ap}
use Rattle.std.specs.Ordering.{is_eq}
use Rattle.cfg_expr.specs.Equality.{texts_code}
use Rattle.cfgx_engine.proofs.IndexLemmas.{ends_when}
use Rattle.cfgx_engine.proofs.resolve.index.ends_with.Goals as goal

pub returns-in-Some : goal.returns-in-Some
returns-in-Some c =
    ends_when c.args.names.now c.in-Some.last.now (texts_code c.args.asked.now) c.is_eq.result
    c.in-Some.ensures.value (c.is_eq.ensures ∙ ap is_eq c.cmp.ensures)
