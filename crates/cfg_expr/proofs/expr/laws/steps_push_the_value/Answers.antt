use Rattle.std.proofs.Common.{◌∙◌, Some, ◌∷◌, ap, refl}
use Rattle.cfg_expr.specs.Fold.{answered, tree_fold}
use Rattle.cfg_expr.specs.StepStack.{as_eval, as_written}
use Rattle.cfg_expr.proofs.stepped.StepStack.{after-steps_of, entry_of, folded-as_eval}
use Rattle.cfg_expr.proofs.stepped.StepStack.{folded-as_written}
use Rattle.cfg_expr.proofs.expr.laws.steps_push_the_value.Goals as goal

pub returns-clause-as_eval : goal.returns-clause-as_eval
returns-clause-as_eval g c = λ tree answers stack many.
    let given = answered g.T.Logic.top tree answers in (
      entry_of g.T.Logic given,
      refl,
      after-steps_of g.T.Logic (as_eval g.T.Logic) answers tree stack many
          ∙ ap (λ entry. Some (entry ∷ stack)) (folded-as_eval g.T.Logic given),
    )

pub returns-clause-as_written : goal.returns-clause-as_written
returns-clause-as_written g c = λ and or tree answers stack many.
    after-steps_of g.T.Logic (as_written g.T.Logic) answers tree stack many
    ∙ ap (λ value. Some (value ∷ stack))
    (folded-as_written g.T.Logic and or (answered g.T.Logic.top tree answers))
