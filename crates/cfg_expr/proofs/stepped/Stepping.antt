-- The items of steps.
use Rattle.std.proofs.Common.{◌≡◌, ◌+◌, ◌<◌, ℕ, List, ◌∷◌, drop, get_or, length, map, ap, ◌∙◌}
use Rattle.std.proofs.Common.{arith}
use Rattle.std.proofs.lemmas.List.{drop_more, get_or-map, length-map}
use Rattle.cfg_expr.specs.Fold.{Operations}
use Rattle.cfg_expr.specs.declared.expr.steps.Step.{Step}
use Rattle.cfg_expr.specs.nodes.Reading.{Item, step_item}

module _ {T : Type 0} (logic : Operations T) (steps : List Step) (answers : List T) where
  abbrev pub items : List (Item T)
  items = map (step_item logic answers) steps

  pub length-items : length items ≡ length steps
  length-items = length-map steps (step_item logic answers)

  -- the item of the step at the place
  pub step-at : (place from : ℕ) (otherwise : Step) → from ≡ place + 1 → place < length steps
      → drop place items ≡ step_item logic answers (get_or steps place otherwise) ∷ drop from items
  step-at place from otherwise next_is inside =
      let here = step_item logic answers (get_or steps place otherwise) in
      rw next_is (drop_more items place here (omega (arith, inside, length-items))
      ∙ ap (λ first. first ∷ drop (place + 1) items)
      (get_or-map (step_item logic answers) steps place otherwise here inside))
