-- What contracts see of commands and outputs, and the outputs of values and failures.
use Rattle.std.specs.Prelude.{◌≡◌, Bool, Option, Result, Ok, Err, IfSome, IsSomeAnd}
use Rattle.std.specs.Cow.{cow_slice_items}
use Rattle.cfgx_syntax.specs.Error.{TextFault, failure_of}
use Rattle.cfgx_syntax.specs.declared.error.Failure.{Failure}
use Rattle.cfgx_engine.specs.Output.{Output, fault_output, value_output}
use Rattle.cfgx_engine.specs.Request.{Request, texts}
use Rattle.cfgx_engine.specs.declared.engine.output.Output.{Output as CodeOutput}
use Rattle.cfgx_engine.specs.declared.engine.command.Command.{Command}
use Rattle.cfgx_engine.specs.declared.engine.command.Command.TheVariants as command

-- the request of a command, without where its texts lie in memory
abbrev pub command_request : Command → Request
command_request (command.Parse text) = Request.parse text.now
command_request (command.Eval text flags) = Request.eval text.now (texts flags.now)
command_request (command.Target triple text) = Request.target triple.now text.now
command_request (command.Pick triple) = Request.pick triple.now
command_request command.WrongUse = Request.wrong_use

-- an output, without where its bytes lie in memory
abbrev pub output_view : {A : Type 0} → CodeOutput A → Output
output_view output = record { bytes = cow_slice_items output.bytes; status = output.status }

-- the output of a failure. Out of memory it has none
abbrev pub ShowsFailure : {A : Type 0} → Failure A → Output → Type 0
ShowsFailure failed output = IsSomeAnd (failure_of failed) (λ fault. output ≡ fault_output fault)

-- the output of a value, or of a failure
abbrev pub ShowsResult : {A : Type 0} → Result (Option Bool) (Failure A) → Output → Type 0
ShowsResult (Ok value) output = output ≡ value_output value
ShowsResult (Err failed) output = ShowsFailure failed output

-- `Holds` holds of the fault. Out of memory there is no fault
abbrev pub Fails : {A : Type 0} → (TextFault → Type 0) → Failure A → Type 0
Fails Holds failed = IfSome (failure_of failed) Holds

-- `Holds` holds of the value, or of the fault in its place. Out of memory there is neither
abbrev pub FitsResult : {T A : Type 0} → (Result T TextFault → Type 0) → Result T (Failure A)
    → Type 0
FitsResult Holds (Ok value) = Holds (Ok value)
FitsResult Holds (Err failed) = Fails (λ fault. Holds (Err fault)) failed
