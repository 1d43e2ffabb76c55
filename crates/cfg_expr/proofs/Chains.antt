-- What a chain of calls says to a caller of `eval`.
use Rattle.std.proofs.Common.{◌≡◌, ◌≤◌, ◌+◌, ℕ, min, suc, List, length, refl, ap, ◌∙◌, arith, sym}
use Rattle.std.{proofs.lemmas.Slice.Zip.AllZip-map, specs.Borrow.MutBor, specs.List.AllZip}
use Rattle.cfgx_grammar.specs.Question.{Question}
use Rattle.cfgx_grammar.specs.Answer.{HasOneTree}
use Rattle.cfgx_grammar.specs.Tree.{asked}
use Rattle.cfg_expr.specs.Fold.{Operations, tree_fold}
use Rattle.cfg_expr.specs.Asking.{AnswersBy, Closure, Asks, Calls}
use Rattle.cfg_expr.specs.Evaluation.{Evaluates, IsValueBy}

-- each call adds one to what the closure counts in, up to a bound, and counts on in the same place
abbrev pub AddsOne : {F T : Type 0} → Closure F T → (F → MutBor ℕ) → ℕ → Type 0
AddsOne {F} {T} closure seen most = (before : F) (question : Question) (given : T) (after : F)
    → Asks closure before question given after
    → ((seen after).now ≡ min ((seen before).now + 1) most)
    × ((seen after).ghost_name ≡ (seen before).ghost_name)

module _ {F T : Type 0} (closure : Closure F T) where
  -- there are as many answers as questions
  pub Calls-length : {before after : F} {questions : List Question} {answers : List T}
      → Calls closure before questions answers after → length answers ≡ length questions
  Calls-length (Calls.none state) = refl
  Calls-length (Calls.more _ _ _ _ _ _ _ _ calls) = ap suc (Calls-length calls)

  -- if each call keeps what holds of the closure, and its answer stands in a relation to its
  -- question, so do all the answers to all the questions
  pub Calls-AllZip : (Holds : F → Type 0) (R : Question → T → Type 0)
      → ((before : F) (question : Question) (given : T) (after : F) → Holds before
      → Asks closure before question given after → R question given × Holds after)
      → (before : F) (questions : List Question) (answers : List T) (after : F) → Holds before
      → Calls closure before questions answers after → AllZip R questions answers
  Calls-AllZip Holds R each _ _ _ _ holds (Calls.none state) = tt
  Calls-AllZip Holds R each _ _ _ _ holds
      (Calls.more before question given between questions answers after asks calls) =
      let first = each before question given between holds asks in
      (first.0, Calls-AllZip Holds R each between questions answers after first.1 calls)

  -- if each call adds one to what the closure counts in, up to a bound, the chain adds the
  -- number of questions
  Calls-count : (seen : F → MutBor ℕ) (most : ℕ) → AddsOne closure seen most
      → {before after : F} {questions : List Question} {answers : List T}
      → (seen before).now ≤ most → Calls closure before questions answers after
      → ((seen after).now ≡ min ((seen before).now + length questions) most)
      × ((seen after).ghost_name ≡ (seen before).ghost_name)
  Calls-count seen most each fits (Calls.none state) = (omega arith, refl)
  Calls-count seen most each fits (Calls.more before question given between _ _ _ asks calls) =
      let first = each before question given between asks in
      let others = Calls-count seen most each (omega (arith, first.0)) calls in
      (omega (arith, first.0, others.0), others.1 ∙ first.1)

-- if no call changes the closure, the value is that over the function by which it answers
pub Evaluates-by : {F T : Type 0} {logic : Operations T} {closure : Closure F T} {text : List ℕ}
    {before after : F} {value : T} → Evaluates logic closure text before value after
    → (answer_to : Question → T) → AnswersBy closure before answer_to
    → IsValueBy logic text answer_to value
Evaluates-by {logic = logic} {closure} {before = before} {after} e answer_to by =
    let answers = AllZip-map answer_to (asked e.one.tree) e.answers
    (Calls-AllZip closure (λ state. AnswersBy closure state answer_to)
    (λ question given. given ≡ answer_to question)
    (λ before question given between by asks.
    let first = by asks.shown given between asks.called in
    (rw (first.1, asks.shows) refl, rw first.0 by))
    before (asked e.one.tree) e.answers after by e.calls) in
    record {
      one = e.one;
      value_is = e.value_is ∙ ap (tree_fold logic e.one.tree) answers;
    }

-- if the closure counts its calls from 0 up to a bound, the count is that of the questions
pub Evaluates-count : {F T : Type 0} {logic : Operations T} {closure : Closure F T} {text : List ℕ}
    {before after : F} {value : T} {count : ℕ} (seen : F → MutBor ℕ) (most : ℕ)
    → Evaluates logic closure text before value after
    → AddsOne closure seen most → (seen before).now ≡ 0
    → ((seen before).ghost_name ≡ (seen after).ghost_name → count ≡ (seen after).now)
    → (one : HasOneTree text) × (count ≡ min (length (asked one.tree)) most)
Evaluates-count {closure = closure} {before = before} {after} seen most e each starts ends =
    let all = Calls-count closure seen most each (omega (arith, starts)) e.calls in
    let is = ends (sym all.1) in (e.one, omega (arith, all.0, starts, is))
