-- What `cfgx_audit` writes.
-- Source: include/cfgx.h.
use Rattle.std.specs.Prelude.{ℕ, Bool, List, Option, length, map}
use Rattle.cfgx_syntax.specs.Stripping.{strip}
use Rattle.cfgx_engine.specs.Audits.{AreValues}
use Rattle.cfgx_engine.specs.Facts.{IsAnswer, texts_of}
use Rattle.cfgx_engine.specs.declared.resolve.facts.Otherwise.{Otherwise}
use Rattle.cfgx_c.specs.Answers.{otherwise_of}
use Rattle.cfgx_c.specs.Buffer.{Fills}
use Rattle.cfgx_c.specs.Ends.{AreEnds}
use Rattle.cfgx_c.specs.Value.{byte_of_value}

-- the ends of the texts, of the facts and of the targets are ends of parts
pub record AreAllEnds (texts text_ends facts fact_ends target_ends : List ℕ) : Type 0 where
  pub of_texts : AreEnds text_ends (length texts)
  pub of_facts : AreEnds fact_ends (length facts)
  pub of_targets : AreEnds target_ends (length fact_ends)

-- The values of the texts on the targets. With `n` targets, item `i * n + j` is the value of text
-- `i` over the answers of the facts of target `j`.
abbrev pub ValuesBy : List (List ℕ) → List (List (List ℕ)) → Otherwise → List (Option Bool) → Type 0
ValuesBy texts targets otherwise values =
    AreValues (λ facts. IsAnswer (texts_of facts) otherwise) (map strip texts) targets values

-- the buffer was filled with the bytes of the values
abbrev pub FillsValues : List (List ℕ) → List (List (List ℕ)) → ℕ → List ℕ → List ℕ → ℕ → Type 0
FillsValues texts targets otherwise old new needed = (values : List (Option Bool))
    × ValuesBy texts targets (otherwise_of otherwise) values
    × Fills (map byte_of_value values) old new needed
