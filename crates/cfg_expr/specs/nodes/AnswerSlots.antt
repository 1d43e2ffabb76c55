-- Answers at the places of nodes, and how they come there: a closure is asked them.
use Rattle.std.specs.Prelude.{◌≡◌, ◌<◌, ◌++◌, ℕ, List, [], ◌∷◌, length, map, replicate, set}
use Rattle.std.specs.List.{AllByRecursion}
use Rattle.cfgx_grammar.specs.Question.{Question}
use Rattle.cfg_expr.specs.Asking.{Closure, Calls}
use Rattle.cfg_expr.specs.declared.expr.evaluating.Slot.{Slot}
use Rattle.cfg_expr.specs.declared.expr.evaluating.Slot.TheVariants as slot

-- with one item after another put at these places
abbrev pub put_at : {S : Type 0} → List S → List ℕ → List S → List S
put_at slots places [] = slots
put_at slots [] (item ∷ items) = slots
put_at slots (place ∷ places) (item ∷ items) = put_at (set slots place item) places items

-- with one answer after another put at these places
abbrev pub with_answers : {T : Type 0} → List (Slot T) → List ℕ → List T → List (Slot T)
with_answers slots places answers = put_at slots places (map slot.Leaf answers)

-- where the asking stands: some questions were asked, one call each, and what the answers to the
-- rest make of the slots, all answers make of the first ones
pub record Asking {F T : Type 0} (closure : Closure F T) (start : F) (questions : List Question)
    (places : List ℕ) (initial : List (Slot T)) (now : F) (rest : List Question) (left : List ℕ)
    (slots : List (Slot T)) : Type 0 where
  pub before : List Question
  pub given : List T
  pub calls : Calls closure start before given now
  pub all : questions ≡ before ++ rest
  pub as_many : length left ≡ length rest
  pub inside : AllByRecursion (λ place. place < length slots) left
  pub puts : (more : List T)
      → with_answers slots left more ≡ with_answers initial places (given ++ more)

-- no answer yet at any of this number of places
abbrev pub no_answers : {T : Type 0} → ℕ → List (Slot T)
no_answers count = replicate count slot.Empty
