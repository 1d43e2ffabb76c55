-- A closure that is asked one question after another.
use Rattle.std.proofs.Common.{◌≡◌, ◌<◌, ℕ, List, [], ◌∷◌, ◌++◌, length, set, ⊎_elim, ◌⊎◌, ap, refl}
use Rattle.std.proofs.Common.{sym, ◌∙◌}
use Rattle.std.{proofs.Common.append_assoc, proofs.Common.arith, proofs.lemmas.List.append-nil}
use Rattle.std.proofs.lemmas.List.{length-set}
use Rattle.std.specs.List.{AllByRecursion}
use Rattle.std.specs.Iterator.{AlwaysYields}
use Rattle.std.proofs.Common.{Option, Some, None}
use Rattle.cfgx_grammar.specs.Question.{Question}
use Rattle.cfg_expr.specs.Asking.{Closure, Asks, Calls, MayAsk, MayAskEach}
use Rattle.cfg_expr.specs.nodes.Reading.{Slot}
use Rattle.cfg_expr.specs.declared.expr.evaluating.Slot.TheVariants as slot
use Rattle.cfg_expr.specs.nodes.AnswerSlots.{Asking, with_answers}

-- one call more
Calls-then : {F T : Type 0} {closure : Closure F T} {start now after : F}
    {questions : List Question} {answers : List T} {question : Question} {answer : T}
    → Calls closure start questions answers now → Asks closure now question answer after
    → Calls closure start (questions ++ question ∷ []) (answers ++ answer ∷ []) after
Calls-then (Calls.none state) asks = Calls.more _ _ _ _ _ _ _ asks (Calls.none _)
Calls-then (Calls.more _ _ _ _ _ _ _ first calls) asks =
    Calls.more _ _ _ _ _ _ _ first (Calls-then calls asks)

-- an answer more leaves the number of slots
pub inside-kept : {T : Type 0} (slots new : List (Slot T)) (place : ℕ) (one : Slot T)
    (next : List ℕ) → new ≡ set slots place one
    → AllByRecursion (λ place. place < length slots) next
    → AllByRecursion (λ place. place < length new) next
inside-kept slots new place one next put inside = rw (put, length-set slots place one) inside

module _ {F T : Type 0} {closure : Closure F T} {start now : F} {questions rest : List Question}
    {at left : List ℕ} {initial slots : List (Slot T)}
    (asking : Asking closure start questions at initial now rest left slots) where
  pub Asking-may : {question : Question} {others : List Question} → rest ≡ question ∷ others
      → MayAskEach closure start questions → MayAsk closure now question
  Asking-may {question} {others} is may = grind arith

  pub Asking-inside : {place : ℕ} {next : List ℕ} → left ≡ place ∷ next → place < length slots
  Asking-inside is = (rw is at asking.inside).0

  pub Asking-next : {question : Question} {others : List Question} {answer : T} {after : F}
      {place : ℕ} {next : List ℕ} {new : List (Slot T)} → rest ≡ question ∷ others
      → Asks closure now question answer after → left ≡ place ∷ next
      → new ≡ set slots place (slot.Leaf answer)
      → Asking closure start questions at initial after others next new
  Asking-next {question} {others} {answer} is asks left_is put = record {
    before = asking.before ++ question ∷ [];
    given = asking.given ++ answer ∷ [];
    calls = Calls-then asking.calls asks;
    all = asking.all ∙ rw (is, append_assoc asking.before (question ∷ []) others) refl;
    as_many = omega (arith, asking.as_many, ap length is, ap length left_is);
    inside = inside-kept slots _ _ _ _ put (rw left_is at asking.inside).1;
    puts = λ more. rw (put, append_assoc asking.given (answer ∷ []) more)
        (rw left_is at (asking.puts (answer ∷ more)));
  }

  -- with all asked, the answers are put
  pub Asking-over : rest ≡ [] → (answers : List T) × Calls closure start questions answers now
      × (slots ≡ with_answers initial at answers)
  Asking-over none =
      let all : questions ≡ asking.before =
      asking.all ∙ rw (none, append-nil asking.before) refl in (
        asking.given,
        rw all asking.calls,
        asking.puts [] ∙ rw (append-nil asking.given) refl,
      )

module _ {S T : Type 0} (steps : S → Option T → S → Type 0) where
  -- an answer that comes is the first of those that always come
  pub first-comes : (s t : S) (answer : T) → steps s (Some answer) t → (left : List T)
      → AlwaysYields steps (λ x. x) s left → (rest : List T) × (left ≡ answer ∷ rest)
      × AlwaysYields steps (λ x. x) t rest
  first-comes s t answer step [] runs = absurd (runs answer t step)
  first-comes s t answer step (first ∷ rest) runs =
      let more = runs.1 answer t step in
      (rest, ap (λ value. value ∷ rest) (sym more.0), more.1)

  -- with no place or no answer left, nothing more is put
  pub nothing-comes : (s : S) (slots : List (Slot T)) (places : List ℕ) (left : List T)
      → AlwaysYields steps (λ x. x) s left
      → (places ≡ []) ⊎ ((t : S) × steps s None t) → with_answers slots places left ≡ slots
  nothing-comes s slots places [] runs ends = refl
  nothing-comes s slots [] (first ∷ rest) runs ends = refl
  nothing-comes s slots (place ∷ places) (first ∷ rest) runs ends =
      ⊎_elim (λ none. absurd (cc)) (λ none. absurd (runs.0 none.0 none.1)) ends
