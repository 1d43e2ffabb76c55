-- The answers of facts that were read, and the values over them.
use Rattle.std.proofs.Common.{◌≡◌, ℕ, Bool, List, Option, map}
use Rattle.std.specs.List.{AllZip}
use Rattle.cfgx_syntax.specs.Stripping.{strip}
use Rattle.cfgx_grammar.specs.{Answer.HasOneTree, Tree.asked}
use Rattle.cfgx_engine.specs.Audits.{AreValues}
use Rattle.cfgx_engine.specs.Facts.{FactTexts, IsAnswer, NameAlike, texts_of}
use Rattle.cfgx_engine.specs.declared.resolve.facts.Otherwise.{Otherwise}
use Rattle.cfgx_engine.proofs.{AuditLemmas.AllZip-weaker, FactLemmas.IsAnswer-alike}
use Rattle.cfgx_engine.proofs.ValueLemmas.{AreValues-alike}
use Rattle.cfgx_c.specs.{Answers.AnswersOfFacts, Audit.ValuesBy}

-- the answers of the facts that were read are those of the facts
pub AnswersOfFacts-read : (text condition : List ℕ) (facts : List (List ℕ)) (read : FactTexts)
    (otherwise : Otherwise) (answers : List (Option Bool)) → condition ≡ strip text
    → NameAlike read (texts_of facts)
    → (one : HasOneTree condition) × AllZip (IsAnswer read otherwise) (asked one.tree) answers
    → AnswersOfFacts text facts otherwise answers
AnswersOfFacts-read text condition facts read otherwise answers is alike given =
    let given = rw is at given in
    record {
      one = given.0;
      answered = AllZip-weaker (IsAnswer read otherwise) (IsAnswer (texts_of facts) otherwise)
          (λ question answer. IsAnswer-alike read (texts_of facts) otherwise question answer alike)
          (asked given.0.tree) answers given.1;
    }

-- and so are the values
pub ValuesBy-read : (texts : List (List ℕ)) (targets : List (List (List ℕ)))
    (reads : List FactTexts) (otherwise : Otherwise) (values : List (Option Bool))
    → AllZip (λ facts read. NameAlike read (texts_of facts)) targets reads
    → AreValues (λ read. IsAnswer read otherwise) (map strip texts) reads values
    → ValuesBy texts targets otherwise values
ValuesBy-read texts targets reads otherwise values alike are =
    AreValues-alike (λ read. IsAnswer read otherwise)
    (λ facts. IsAnswer (texts_of facts) otherwise) (λ facts read. NameAlike read (texts_of facts))
    (λ facts read alike question answer.
    IsAnswer-alike read (texts_of facts) otherwise question answer alike)
    (map strip texts) targets reads values alike are
