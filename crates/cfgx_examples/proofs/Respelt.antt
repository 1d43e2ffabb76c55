-- The result for a text that asks one predicate alone.
use Rattle.std.{proofs.Common.{◌∙◌, List, ℕ, Ok, Err, sym, subst}, specs.Prelude.Result}
use Rattle.cfgx_syntax.specs.{Stripping.strip, declared.error.Failure.Failure}
use Rattle.cfgx_syntax.specs.declared.error.Failure.TheVariants as failure
use Rattle.cfgx_grammar.specs.{Answer.Answers, Question.Question, WellFormed.IsAlone}
use Rattle.cfgx_examples.specs.Examples.{IsReadAlone}
use Rattle.cfgx_grammar.proofs.Answering.{HasOneTree-tree, not_both}

pub read-alone : {A : Type 0} (text : List ℕ) (question : Question)
    (result : Result (List ℕ) (Failure A)) → IsAlone text question → Answers (strip text) result
    → IsReadAlone question result
read-alone text question (Ok expression) alone answers =
    subst (λ bytes. IsAlone bytes question) (sym (answers.0 ∙ alone.stripped)) alone
read-alone text question (Err (failure.Parse error)) alone answers =
    not_both answers.2 (rw alone.stripped (HasOneTree-tree alone.reads.has))
read-alone text question (Err (failure.Memory error)) alone answers = tt
