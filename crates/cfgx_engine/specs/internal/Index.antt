-- What the facts of at most sixty-four targets say of predicates, each target in a lane.
use Rattle.std.specs.Prelude.{◌≡◌, ◌≢◌, ◌<◌, ◌≤◌, ◌+◌, ◌-◌, ◌⊎◌, ℕ, zero, suc, Bool, false, List}
use Rattle.std.specs.Prelude.{[], ◌∷◌, length, map, option_map, Option, Some, if◌then◌else◌}
use Rattle.std.specs.List.{list_any, slice_get}
use Rattle.std.specs.List.Sorted.{IsStrictlySortedBy}
use Rattle.std.specs.declared.cmp.Ordering.{Ordering}
use Rattle.std.specs.declared.cmp.Ordering.TheVariants.{Less, Equal, Greater}
use Rattle.cfgx_syntax.specs.Kleene.{EachLane, Planes, behind, lane}
use Rattle.cfgx_syntax.specs.Logic.{kleene_or}
use Rattle.cfgx_grammar.specs.Question.{Question}
use Rattle.cfgx_engine.specs.Facts.{FactTexts, IsAnswer}
use Rattle.cfgx_engine.specs.declared.resolve.facts.Otherwise.TheVariants as otherwise
use Rattle.cfg_expr.specs.declared.expr.asked_texts.AskedTexts.{AskedTexts}
use Rattle.cfg_expr.specs.Equality.{Code, code_cmp, code_eq, question_code, texts_code}

-- a predicate that facts name, and the answers of the targets to it
pub record Entry : Type 0 where
  pub asked : AskedTexts
  pub answers : Planes

-- the entries of predicates and of the answers to them, in order
abbrev pub paired : List AskedTexts → List Planes → List Entry
paired [] answers = []
paired (asked ∷ names) [] = []
paired (asked ∷ names) (answers ∷ others) =
    record { asked = asked; answers = answers } ∷ paired names others

-- the codes of the predicates of entries
abbrev pub entry_codes : List Entry → List Code
entry_codes entries = map (λ (entry : Entry). texts_code entry.asked) entries

-- each entry is below those behind it, so no predicate has two
abbrev pub AreSorted : List Entry → Type 0
AreSorted entries = IsStrictlySortedBy code_cmp (entry_codes entries)

-- the answer that an entry tells in lane i of the predicate with this code: false if it is that of
-- another one
abbrev pub entry_told : Entry → Code → ℕ → Option Bool
entry_told entry name i =
    if code_eq (texts_code entry.asked) name then lane i entry.answers else Some false

-- the answer that entries tell
abbrev pub told : List Entry → Code → ℕ → Option Bool
told [] name i = Some false
told (entry ∷ entries) name i = kleene_or (entry_told entry name i) (told entries name i)

-- a list tells of each predicate what two others tell, joined
abbrev pub Joins : List Entry → List Entry → List Entry → Type 0
Joins one other both = (name : Code) (i : ℕ) → i < 64
    → told both name i ≡ kleene_or (told one name i) (told other name i)

-- the last predicate has this code
abbrev pub EndsWith : List AskedTexts → Code → Type 0
EndsWith names name = option_map texts_code (slice_get names (length names - 1)) ≡ Some name

-- the answers to the lesser of two predicates, or those to both, joined, if they are equal
abbrev pub AreNextAnswers : Ordering → Planes → Planes → Planes → Type 0
AreNextAnswers Less one other next = next ≡ one
AreNextAnswers Greater one other next = next ≡ other
AreNextAnswers Equal one other next =
    EachLane next (λ i. kleene_or (lane i one) (lane i other))

-- whether the code is among these
abbrev pub is_among : List Code → Code → Bool
is_among names name = list_any (λ other. code_eq other name) names

-- entries tell these answers of each predicate with one of these codes, and false of every other
abbrev pub TellsEach : List Code → (ℕ → Option Bool) → List Entry → Type 0
TellsEach names answers entries = (name : Code) (i : ℕ) → i < 64
    → told entries name i ≡ (if is_among names name then answers i else Some false)

-- this answer for the number n, and false for every other
abbrev pub one_lane : ℕ → Option Bool → ℕ → Option Bool
one_lane zero answer = behind answer (λ i. Some false)
one_lane (suc n) answer = behind (Some false) (one_lane n answer)

-- the facts answer in this lane, and the other lanes are false
pub record TellsTarget (facts : FactTexts) (n : ℕ) (entries : List Entry) : Type 0 where
  pub here : (question : Question)
      → IsAnswer facts otherwise.False question (told entries (question_code question) n)
  pub others : (question : Question) (i : ℕ) → i < 64 → i ≢ n
      → told entries (question_code question) i ≡ Some false

-- each target answers in its lane, counted from the first on, and the other lanes are false
pub record TellsTargets (targets : List FactTexts) (first : ℕ) (entries : List Entry) : Type 0
  where
    pub answers : (i : ℕ) (facts : FactTexts) → slice_get targets i ≡ Some facts
        → (question : Question)
        → IsAnswer facts otherwise.False
        question (told entries (question_code question) (first + i))
    pub others : (i : ℕ) → (i < first) ⊎ (first + length targets ≤ i) → i < 64
        → (question : Question) → told entries (question_code question) i ≡ Some false
