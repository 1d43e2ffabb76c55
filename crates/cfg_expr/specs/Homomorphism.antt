-- Maps from one logic to another, and the lanes of sixty-four answers as such maps.
-- Source: a homomorphism of algebras; Kleene's strong logic, lane by lane.
use Rattle.std.specs.Prelude.{◌≡◌, ◌==◌, Bool, IsTrue, List, bit_and, map}
use Rattle.cfgx_syntax.specs.Kleene.{Planes, EachLane, lane}
use Rattle.cfgx_syntax.specs.contracts.logic.kleene.Kleene64Logic.TheImpl as lanes_logic
use Rattle.cfgx_grammar.specs.Tree.{Tree}
use Rattle.cfg_expr.specs.Fold.{Operations, tree_fold}
use Rattle.cfg_expr.specs.Filling.{three_valued}

-- The map takes each constant and each operation of one logic to that of another. `Holds` says of
-- values of the first logic what the map needs: the constants have it, the operations keep it, and
-- they are taken to those of the other logic over operands that have it.
pub record IsHomomorphism {T U : Type 0} (one : Operations T) (other : Operations U)
    (Holds : T → Type 0) (to : T → U) : Type 0 where
  pub top : Holds one.top × (to one.top ≡ other.top)
  pub bottom : Holds one.bottom × (to one.bottom ≡ other.bottom)
  pub and : (x y : T) → Holds x → Holds y
      → Holds (one.and x y) × (to (one.and x y) ≡ other.and (to x) (to y))
  pub or : (x y : T) → Holds x → Holds y
      → Holds (one.or x y) × (to (one.or x y) ≡ other.or (to x) (to y))
  pub not : (x : T) → Holds x → Holds (one.not x) × (to (one.not x) ≡ other.not (to x))

-- the value passes the test
abbrev pub Passes : {T : Type 0} → (T → Bool) → T → Type 0
Passes test x = IsTrue (test x)

-- whether no lane is both true and false
abbrev pub is_disjoint : Planes → Bool
is_disjoint planes = bit_and planes.is_true planes.is_false == 0

-- the logic of sixty-four answers at once
abbrev pub lane_valued : Operations Planes
lane_valued = lanes_logic.ghosts

-- each lane of the value is the value in three values over this lane of the answers
abbrev pub IsByLane : {X : Type 0} → Tree X → List Planes → Type 0
IsByLane tree answers = EachLane (tree_fold lane_valued tree answers)
    (λ i. tree_fold three_valued tree (map (lane i) answers))
