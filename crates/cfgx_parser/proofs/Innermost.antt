-- A change of the innermost list, that of the innermost function or of the root.
use Rattle.std.proofs.Common.{◌≡◌, ◌+◌, List, [], ◌∷◌, refl, ap}
use Rattle.cfgx_grammar.specs.parsing.Step.{over_top, root_more}
use Rattle.cfgx_parser.specs.parsing.{Fields.{open_of, opens_in, roots_in}, NodeState.OpenFunction}
use Rattle.cfgx_parser.specs.declared.parser.{OpenFunc.OpenFunc, OpenList.OpenList}

module _ (list changed : OpenList) where
  pub opens-changed : (f : OpenFunction → OpenFunction)
      → ((top : OpenFunc) → open_of top changed ≡ f (open_of top list))
      → (functions : List OpenFunc)
      → opens_in changed functions ≡ over_top f (opens_in list functions)
  opens-changed f is [] = refl
  opens-changed f is (top ∷ rest) = ap (λ o. o ∷ opens_in top.around rest) (is top)

  pub roots-same : changed.ended_members ≡ list.ended_members → (functions : List OpenFunc)
      → roots_in changed functions ≡ roots_in list functions
  roots-same is [] = is
  roots-same is (top ∷ rest) = refl

  pub roots-more : changed.ended_members ≡ list.ended_members + 1 → (functions : List OpenFunc)
      → roots_in changed functions ≡ root_more (opens_in list functions) (roots_in list functions)
  roots-more is [] = is
  roots-more is (top ∷ rest) = refl
