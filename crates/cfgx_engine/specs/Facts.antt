-- What facts say of a predicate, and which texts are facts. A fact is a text whose predicates are
-- true, or `?` and a text whose predicates are unknown.
-- Source of the rules: docs/RULES.md.
use Rattle.std.specs.Prelude.{◌≡◌, ◌⊎◌, ◌↔◌, ℕ, Bool, true, false, List, codes, take, drop, map}
use Rattle.std.specs.Prelude.{Option, Some, None, Result, Ok, Err, is_some, unwrap_or, slice_get}
use Rattle.std.specs.Prelude.{if◌then◌else◌, nat_eq}
use Rattle.std.specs.Ordering.{on}
use Rattle.std.specs.List.{AllByRecursion, Any, Contains, filter_map}
use Rattle.std.specs.Str.{bytes_eq}
use Rattle.cfgx_syntax.specs.Stripping.{strip}
use Rattle.cfgx_syntax.specs.Error.{TextFault, fault_of}
use Rattle.cfgx_syntax.specs.declared.error.Failure.{Failure}
use Rattle.cfgx_syntax.specs.declared.error.Failure.TheVariants as failure
use Rattle.cfgx_grammar.specs.Question.{Question}
use Rattle.cfgx_grammar.specs.Tree.{Tree, asked}
use Rattle.cfgx_grammar.specs.Grammar.{HasTree}
use Rattle.cfgx_grammar.specs.{Answer.HasOneTree, Unaskable.IsUnaskable}
use Rattle.cfgx_engine.specs.Readings.{ParsesAs}
use Rattle.cfgx_engine.specs.declared.resolve.facts.Otherwise.{Otherwise}
use Rattle.cfgx_engine.specs.declared.resolve.facts.Otherwise.TheVariants as otherwise
use Rattle.cfgx_engine.specs.declared.resolve.facts.FactsError.{FactsError}
use Rattle.cfgx_engine.specs.declared.resolve.facts.FactsError.TheVariants as facts_error

-- the text of a fact whose predicates are unknown: what follows the `?` in front
abbrev pub unknown_text : List ℕ → Option (List ℕ)
unknown_text fact = if bytes_eq (take 1 fact) (codes "?") then Some (drop 1 fact) else None

-- the text of a fact whose predicates are true: the whole fact
abbrev pub true_text : List ℕ → Option (List ℕ)
true_text fact = if is_some (unknown_text fact) then None else Some fact

-- the text of a fact of either kind
abbrev pub fact_text : List ℕ → List ℕ
fact_text fact = unwrap_or (unknown_text fact) fact

-- texts whose predicates are true, and texts whose predicates are unknown, each without an outer
-- `cfg( )`
pub record FactTexts : Type 0 where
  pub true_texts : List (List ℕ)
  pub unknown_texts : List (List ℕ)

-- the texts of facts
abbrev pub texts_of : List (List ℕ) → FactTexts
texts_of facts = record {
  true_texts = map strip (filter_map true_text facts);
  unknown_texts = map strip (filter_map unknown_text facts);
}

-- the text's tree asks the question
abbrev pub Names : List ℕ → Question → Type 0
Names text question = (tree : Tree Question) × HasTree text tree × Contains (asked tree) question

-- one of the texts names the question
abbrev pub IsNamed : List (List ℕ) → Question → Type 0
IsNamed texts question = Any (λ text. Names text question) texts

-- the number of an answer to what no fact names
abbrev pub otherwise_number : Otherwise → ℕ
otherwise_number otherwise.False = 0
otherwise_number otherwise.Unknown = 1

-- whether two answers to what no fact names are the same
abbrev pub otherwise_eq : Otherwise → Otherwise → Bool
otherwise_eq = on otherwise_number nat_eq

-- the answer to a question that no text names: false, or unknown if `otherwise` says so and the
-- question is not on the target
abbrev pub unnamed_answer : Otherwise → Question → Option Bool
unnamed_answer otherwise.False question = Some false
unnamed_answer otherwise.Unknown (Question.target question) = Some false
unnamed_answer otherwise.Unknown question = None

-- the answer to a question: true if a text of true predicates names it, else unknown if a text of
-- unknown predicates names it, else that of a question that no text names
abbrev pub IsAnswer : FactTexts → Otherwise → Question → Option Bool → Type 0
IsAnswer facts otherwise question answer =
    (IsNamed facts.true_texts question × (answer ≡ Some true))
    ⊎ (¬ IsNamed facts.true_texts question × IsNamed facts.unknown_texts question × (answer ≡ None))
    ⊎ (¬ IsNamed facts.true_texts question × ¬ IsNamed facts.unknown_texts question
    × (answer ≡ unnamed_answer otherwise question))

-- both name the same questions as true, and the same as unknown
pub record NameAlike (one other : FactTexts) : Type 0 where
  pub true_alike : (question : Question)
      → IsNamed one.true_texts question ↔ IsNamed other.true_texts question
  pub unknown_alike : (question : Question)
      → IsNamed one.unknown_texts question ↔ IsNamed other.unknown_texts question

-- a fact that `cfgx eval` takes: its text is a condition
abbrev pub IsFlag : List ℕ → Type 0
IsFlag fact = HasOneTree (strip (fact_text fact))

-- a fact that a compiler may print: its text is a condition, or no condition can ask it
abbrev pub IsRustcFact : List ℕ → Type 0
IsRustcFact fact = IsFlag fact ⊎ IsUnaskable (strip (fact_text fact))

-- each fact is accepted, and the texts name what those of the facts name. A fact that no condition
-- can ask names nothing
pub record AreFacts (Accepts : List ℕ → Type 0) (facts : List (List ℕ)) (read : FactTexts)
    : Type 0 where
  pub each : AllByRecursion Accepts facts
  pub alike : NameAlike read (texts_of facts)

-- the fact at `index` is the first that is not accepted, and its text has this fault
pub record IsFirstFaulty (Accepts : List ℕ → Type 0) (facts : List (List ℕ)) (index : ℕ)
    (fault : TextFault) : Type 0 where
  pub fact : List ℕ
  pub stands : slice_get facts index ≡ Some fact
  pub before : AllByRecursion Accepts (take index facts)
  pub refused : ¬ Accepts fact
  pub parses : ParsesAs (fact_text fact) (Err fault)

-- the facts, or the first that is not accepted
abbrev pub ReadsFacts : {A : Type 0} → (List ℕ → Type 0) → List (List ℕ)
    → Result FactTexts (FactsError A) → Type 0
ReadsFacts Accepts facts (Ok read) = AreFacts Accepts facts read
ReadsFacts Accepts facts (Err (facts_error.Faulty index error)) =
    IsFirstFaulty Accepts facts index (fault_of error)
ReadsFacts Accepts facts (Err (facts_error.Memory error)) = Unit {0}

-- the failure of reading facts, without the index of the fact
abbrev pub failure_in : {A : Type 0} → FactsError A → Failure A
failure_in (facts_error.Faulty index error) = failure.Parse error
failure_in (facts_error.Memory error) = failure.Memory error
