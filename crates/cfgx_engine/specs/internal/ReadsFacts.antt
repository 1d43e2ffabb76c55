-- Facts that are read one after another.
use Rattle.std.specs.Prelude.{◌≡◌, ◌⊎◌, ℕ, List, [], ◌∷◌, ◌++◌}
use Rattle.std.specs.Prelude.{map}
use Rattle.cfgx_syntax.specs.Stripping.{strip}
use Rattle.cfgx_syntax.specs.declared.error.Failure.{Failure}
use Rattle.cfgx_syntax.specs.declared.error.Failure.TheVariants as failure
use Rattle.cfg_expr.specs.Evaluation.{AsksInOrder}
use Rattle.cfgx_grammar.specs.{Question.Question, Unaskable.IsUnaskable}
use Rattle.cfgx_engine.specs.Facts.{FactTexts, IsFlag, IsRustcFact}
use Rattle.cfgx_engine.specs.Facts.{NameAlike, Names, texts_of}
use Rattle.cfgx_engine.specs.declared.resolve.facts.FactsError.{FactsError}
use Rattle.cfgx_engine.specs.declared.resolve.facts.FactsError.TheVariants as facts_error
use Rattle.cfgx_engine.specs.declared.resolve.facts.UnaskableFacts.{UnaskableFacts}
use Rattle.cfgx_engine.specs.declared.resolve.facts.UnaskableFacts.TheVariants as unaskable_facts
use Rattle.cfg_expr.specs.Equality.{Code, question_code}

-- the facts that are accepted
abbrev pub accepts : UnaskableFacts → List ℕ → Type 0
accepts unaskable_facts.Refused fact = IsFlag fact
accepts unaskable_facts.PassedOver fact = IsRustcFact fact

-- the texts that are passed over
abbrev pub passes_over : UnaskableFacts → List ℕ → Type 0
passes_over unaskable_facts.Refused text = ⊥
passes_over unaskable_facts.PassedOver text = IsUnaskable text

-- the text asks nothing
abbrev pub NamesNothing : List ℕ → Type 0
NamesNothing text = (question : Question) → ¬ Names text question

-- the texts of both
abbrev pub joined : FactTexts → FactTexts → FactTexts
joined one other = record {
  true_texts = one.true_texts ++ other.true_texts;
  unknown_texts = one.unknown_texts ++ other.unknown_texts;
}

-- the fact is accepted, and the new texts name what the old ones and that of the fact name
pub record AddsFact (Accepts : List ℕ → Type 0) (fact : List ℕ) (old new : FactTexts) : Type 0 where
  pub accepted : Accepts fact
  pub alike : NameAlike new (joined old (texts_of (fact ∷ [])))

-- The codes of what the text asks, in order. A text that is passed over has none, and asks nothing
abbrev pub IsText : UnaskableFacts → List ℕ → List Code → Type 0
IsText unaskable text added =
    ((questions : List Question) × AsksInOrder text questions
    × (added ≡ map question_code questions))
    ⊎ (passes_over unaskable text × NamesNothing text × (added ≡ []))

-- what the text of a fact names was added, unless the text is passed over
abbrev pub AddsText : UnaskableFacts → List ℕ → List Code → List Code → Type 0
AddsText unaskable text old new = (added : List Code)
    × IsText unaskable (strip text) added × (new ≡ old ++ added)

-- the error of a failure at the fact of this index
abbrev pub error_at : {A : Type 0} → ℕ → Failure A → FactsError A
error_at index (failure.Parse error) = facts_error.Faulty index error
error_at index (failure.Memory error) = facts_error.Memory error
