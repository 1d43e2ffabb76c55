-- What the predicates of a condition are, and what its evaluation promises.
use Rattle.std.specs.Prelude.{◌≡◌, ◌≤◌, ℕ, List, Option, Result, IfOk, IsOk, OnErr, length, map}
use Rattle.std.specs.Iterator.{AlwaysYields}
use Rattle.std.specs.List.{AllByRecursion}
use Rattle.cfgx_syntax.specs.Kleene.{EachLane, IsDisjoint, Planes, lane}
use Rattle.cfgx_grammar.specs.Question.{Question}
use Rattle.cfgx_grammar.specs.Tree.{Tree, asked}
use Rattle.cfgx_grammar.specs.Grammar.{HasTree}
use Rattle.cfgx_grammar.specs.Answer.{HasOneTree}
use Rattle.cfg_expr.specs.Filling.{three_valued}
use Rattle.cfg_expr.specs.Given.{AreAnswersTo}
use Rattle.cfg_expr.specs.Fold.{Operations, tree_fold}
use Rattle.cfg_expr.specs.Homomorphism.{IsByLane, lane_valued}
use Rattle.cfgx_grammar.specs.WellFormed.{IsWellFormed}
use Rattle.cfg_expr.specs.Asking.{AnswersBy, Closure, Calls, MayAskEach}

-- the questions of the text's one tree in the order in which it asks them; each can stand in a text
pub record AsksInOrder (text : List ℕ) (questions : List Question) : Type 0 where
  pub asked : (one : HasOneTree text) × (questions ≡ asked one.tree)
  pub well_formed : AllByRecursion IsWellFormed questions

module _ {F T : Type 0} (logic : Operations T) (closure : Closure F T) where
  -- calls of the closure, one for each question of the text's one tree in order, lead from `before`
  -- to `after`, and `value` is that of the tree over their answers
  pub record Evaluates (text : List ℕ) (before : F) (value : T) (after : F) : Type 0 where
    pub one : HasOneTree text
    pub answers : List T
    pub calls : Calls closure before (asked one.tree) answers after
    pub value_is : value ≡ tree_fold logic one.tree answers

-- the closure may be asked what the text's tree asks
abbrev pub MayEvaluate : {F T : Type 0} → Closure F T → List ℕ → F → Type 0
MayEvaluate closure text state =
    (tree : Tree Question) → HasTree text tree → MayAskEach closure state (asked tree)

-- the value of the text's one tree over what the function says of its questions
pub record IsValueBy {T : Type 0} (logic : Operations T) (text : List ℕ)
    (answer_to : Question → T) (value : T) : Type 0 where
  pub one : HasOneTree text
  pub value_is : value ≡ tree_fold logic one.tree (map answer_to (asked one.tree))

-- what `eval` promises of its result, and of the closure before and after
pub record EvaluatesTo {F T E : Type 0} (logic : Operations T) (closure : Closure F T)
    (text : List ℕ) (before after : F) (result : Result T E) : Type 0 where
  pub value : IfOk result (λ value. Evaluates logic closure text before value after)
  -- what follows if no call changes the closure and its answer is a function of the question
  pub by : IfOk result (λ value. (answer_to : Question → T) → AnswersBy closure before answer_to
      → IsValueBy logic text answer_to value)
  -- after an error the closure is as it was
  pub refused : OnErr result (after ≡ before)
  -- for a text of at most 66 bytes there is no error
  pub short : length text ≤ 66 → IsOk result

-- an iterator with these steps gives answers to the text's predicates from this state on
abbrev pub GivesAnswersTo : {I T : Type 0} → (I → Option T → I → Type 0) → I → List ℕ → Type 0
GivesAnswersTo {T = T} steps state text = (given : List T)
    × AlwaysYields steps (λ x. x) state given × AreAnswersTo given text

-- the value of the text's one tree over the answers that the iterator gives
abbrev pub IsValueOver : {I T : Type 0} → Operations T → (I → Option T → I → Type 0) → I → List ℕ
    → T → Type 0
IsValueOver {T = T} logic steps state text value = (given : List T)
    → AlwaysYields steps (λ x. x) state given → AreAnswersTo given text
    → (one : HasOneTree text) × (value ≡ tree_fold logic one.tree given)

-- the value of the text's one tree over the answers, in all lanes at once and in each by itself
abbrev pub IsValueInLanes : List ℕ → List Planes → Planes → Type 0
IsValueInLanes text answers value = (one : HasOneTree text)
    × (value ≡ tree_fold lane_valued one.tree answers)
    × EachLane value (λ i. tree_fold three_valued one.tree (map (lane i) answers))

-- the text has one tree, which is evaluated lane by lane over any answers to it
abbrev pub IsByLaneOverAll : List ℕ → Type 0
IsByLaneOverAll text = (one : HasOneTree text) × ((answers : List Planes)
    → AllByRecursion IsDisjoint answers → length answers ≡ length (asked one.tree)
    → IsByLane one.tree answers)
