-- Failures and results as outputs show them.
use Rattle.std.proofs.Common.{◌≡◌, ℕ, Bool, List, Option, Some, None, IfSome, Result, Ok, Err}
use Rattle.std.specs.Prelude.{IsSomeAnd}
use Rattle.cfgx_syntax.specs.Stripping.{strip}
use Rattle.cfgx_syntax.specs.{Error.TextFault, Error.failure_of, declared.error.Failure.Failure}
use Rattle.cfgx_syntax.specs.declared.error.Failure.TheVariants as failure
use Rattle.cfgx_grammar.specs.Answer.{Answers}
use Rattle.cfgx_engine.specs.internal.Shows.{Fails, FitsResult, ShowsResult}
use Rattle.cfgx_engine.specs.{Output.Output, Output.result_output, Readings.ParsesAs}

-- the fault of a failed parse is the reading of the text
pub Fails-parse : {A : Type 0} (text : List ℕ) (failed : Failure A)
    → Answers {A = A} (strip text) (Err failed)
    → Fails {A = A} (λ fault. ParsesAs text (Err fault)) failed
Fails-parse text (failure.Parse error) (fault, shown, reads) = (fault, reads, shown)
Fails-parse text (failure.Memory error) parsed = tt

-- a fault that one fact holds of and another one shows
pub shown_fault : {P Q : TextFault → Type 0} (found : Option TextFault) → IfSome found P
    → IsSomeAnd found Q → (fault : TextFault) × P fault × Q fault
shown_fault None fits shows = absurd shows
shown_fault (Some fault) fits shows = (fault, fits, shows)

-- an output that shows a result is the output of a value, or of the fault in its place
pub result_output-shown : {A : Type 0} (Holds : Result (Option Bool) TextFault → Type 0)
    (result : Result (Option Bool) (Failure A)) (shown : Output) → FitsResult {A = A} Holds result
    → ShowsResult {A = A} result shown
    → (value : Result (Option Bool) TextFault) × Holds value × (shown ≡ result_output value)
result_output-shown Holds (Ok value) shown gives shows = (Ok value, gives, shows)
result_output-shown Holds (Err failed) shown fails shows =
    let one = shown_fault (failure_of failed) fails shows in (Err one.0, one.1, one.2)
