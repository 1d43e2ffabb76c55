use Rattle.cfg_expr.specs.Predicate.{question_of}
use Rattle.cfg_expr.specs.Equality.{texts_code}
use Rattle.cfgx_engine.proofs.IndexLemmas.{InLanes-told}
use Rattle.cfgx_engine.proofs.resolve.by_facts.Indexed.ask.Goals as goal

pub returns : goal.returns
returns g c =
    rw (← c.self.view_is) (InLanes-told _ _ c.args.otherwise (question_of c.args.predicate.now)
    (texts_code c.asked_texts.result) c.unnamed_answer.result _ _ _
    c.self.invariant.0 c.self.invariant.1
    c.asked_texts.ensures c.unnamed_answer.ensures c.answers_to-named.ensures c.all_lanes.ensures
    c.or.ensures.lanes)
