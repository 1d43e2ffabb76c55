-- A pass over the nodes that finds the predicates below an odd number of `not`, and the fillings
-- that follow from it.
use Rattle.std.specs.Prelude.{ℕ, suc, Bool, true, false, not, List, [], ◌∷◌, get_or, map, set}
use Rattle.std.specs.Prelude.{length, replicate, Option}
use Rattle.cfg_expr.specs.Filling.{filled_by}
use Rattle.cfgx_parser.specs.nodes.Shape.{Shape}
use Rattle.cfgx_parser.specs.declared.function.Func.TheVariants.{Not}

-- the truth value, or its opposite if the second one is true
abbrev pub turned : Bool → Bool → Bool
turned value false = value
turned value true = not value

-- whether the node, which stands below an odd number of `not` or not, is a predicate that does
abbrev pub is_negated : Shape → Bool → Bool
is_negated Shape.predicate below_odd = below_odd
is_negated shape below_odd = false

-- whether the node behind this one stands below an odd number of `not`, if none ends between them
abbrev pub behind : Shape → Bool → Bool
behind (Shape.function Not len) below_odd = not below_odd
behind shape below_odd = below_odd

-- `ends` has an entry for each node behind this one: whether an odd number of `not` ends in front
-- of it. A `not` ends in front of the first node that is not in its subtree.
abbrev pub ending : Shape → List Bool → List Bool
ending (Shape.function Not (suc below)) ends = set ends below (not (get_or ends below false))
ending shape ends = ends

-- For each node, whether it is a predicate below an odd number of `not`. `ends` has an entry for
-- each node, and `odd` says whether the first one stands below an odd number, if none ends there.
abbrev pub pass : List Shape → List Bool → Bool → List Bool
pass [] ends odd = []
pass (shape ∷ shapes) [] odd = []
pass (shape ∷ shapes) (end ∷ ends) odd = is_negated shape (turned odd end)
    ∷ pass shapes (ending shape ends) (behind shape (turned odd end))

-- the whole pass, before which no `not` has ended
abbrev pub passed : List Shape → List Bool
passed shapes = pass shapes (replicate (length shapes) false) false

-- the answers to the predicates at `places`, with `fill` for an unknown one, or its opposite below
-- an odd number of `not`
abbrev pub filled_at : List Bool → List ℕ → List (Option Bool) → Bool → List Bool
filled_at negated places answers fill =
    filled_by answers (map (turned fill) (map (λ place. get_or negated place false) places))
