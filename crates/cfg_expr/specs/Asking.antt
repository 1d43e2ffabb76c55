-- How a closure is asked predicates: one call for each, in order.
use Rattle.std.specs.Prelude.{◌≡◌, List, [], ◌∷◌, ◌++◌}
use Rattle.std.specs.Fn.{Mut, Called}
use Rattle.std.specs.declared.alloc.Global.{Global}
use denote.Ref.{Bor}
use Rattle.cfgx_grammar.specs.Question.{Question}
use Rattle.cfg_expr.specs.Predicate.{question_of}
use Rattle.cfg_expr.specs.declared.expr.predicates.Predicate.{Predicate}

-- what a closure of type F promises of its calls, which answer a predicate by a T
abbrev pub Closure : Type 0 → Type 0 → Type 1
Closure F T = Mut F (Bor (Predicate Global) × Unit {0}) T

module _ {F T : Type 0} (closure : Closure F T) where
  -- A call at some predicate that asks the question may return the answer and leave the closure in
  -- the second state.
  pub record Asks (before : F) (question : Question) (answer : T) (after : F) : Type 0 where
    pub shown : Bor (Predicate Global)
    pub shows : question_of shown.now ≡ question
    pub called : Called closure before (shown, tt) answer after

  -- a chain of single calls, one for each question in order, with the answers that they return and
  -- the state in which they leave the closure
  pub data Calls : F → List Question → List T → F → Type 0 where
    none : (state : F) → Calls state [] [] state
    more : (before : F) (question : Question) (answer : T) (between : F)
        (questions : List Question) (answers : List T) (after : F)
        → Asks before question answer between → Calls between questions answers after
        → Calls before (question ∷ questions) (answer ∷ answers) after

  -- the closure may be called at each predicate that asks the question
  abbrev pub MayAsk : F → Question → Type 0
  MayAsk state question = (shown : Bor (Predicate Global)) → question_of shown.now ≡ question
      → closure.pre state (shown, tt)

  -- The closure may be asked the questions in order: each one in every state that the earlier calls
  -- may reach.
  pub record MayAskEach (start : F) (questions : List Question) : Type 0 where
    pub at : (before : List Question) (question : Question) (after : List Question)
        (answers : List T) (reached : F) → questions ≡ before ++ question ∷ after
        → Calls start before answers reached → MayAsk reached question

  -- each call in this state returns what the function says of the question, and keeps the state
  abbrev pub AnswersBy : F → (Question → T) → Type 0
  AnswersBy state answer_to = (shown : Bor (Predicate Global)) (answer : T) (after : F)
      → Called closure state (shown, tt) answer after
      → (after ≡ state) × (answer ≡ answer_to (question_of shown.now))
