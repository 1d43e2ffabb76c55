-- The values of a condition on at most sixty-four targets at once.
use Rattle.std.specs.Prelude.{◌≡◌, ℕ, zero, suc, Bool, List, [], ◌∷◌, ◌++◌, Option, Some}
use Rattle.std.specs.List.{AllZip, slice_get}
use Rattle.cfgx_syntax.specs.Kleene.{Planes, lane}
use Rattle.cfgx_grammar.specs.Question.{Question}
use Rattle.cfgx_engine.specs.Audits.{HasValueOver}

-- the lane of each target holds an answer of it to the question
abbrev pub InLanes : {T : Type 0} → (T → Question → Option Bool → Type 0) → List T → Question
    → Planes → Type 0
InLanes {T = T} Answers targets question planes = (i : ℕ) (target : T)
    → slice_get targets i ≡ Some target → Answers target question (lane i planes)

-- the values in the first `n` lanes
abbrev pub lane_values : ℕ → Planes → List (Option Bool)
lane_values zero planes = []
lane_values (suc n) planes = lane_values n planes ++ lane n planes ∷ []

-- one output was added for each of the items, in order
abbrev pub AddsEach : {X V : Type 0} → (X → V → Type 0) → List X → List V → List V → Type 0
AddsEach {V = V} Gives items old new =
    (added : List V) × (new ≡ old ++ added) × AllZip Gives items added

-- the output is one that is given for the value of the condition over these answers
abbrev pub TellsValue : {V : Type 0} → (Option Bool → V → Type 0) → List ℕ
    → (Question → Option Bool → Type 0) → V → Type 0
TellsValue Gives condition Answers output = (value : Option Bool)
    × HasValueOver Answers condition value × Gives value output
