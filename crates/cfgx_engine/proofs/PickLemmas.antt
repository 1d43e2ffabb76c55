-- The output of `pick`, by the input that was read.
use Rattle.std.proofs.Common.{sym, ◌≡◌, ◌++◌, ℕ, Bool, List, [], refl, Option, Some}
use Rattle.std.proofs.Common.{None, Ok, arith, length, length-append, append-nil, ◌<◌}
use Rattle.std.specs.Io.KnownBytes.{Consumes, IsAtEnd, Keeps}
use Rattle.cfgx_grammar.specs.Question.{Question}
use Rattle.cfgx_engine.specs.{internal.ReadsMore.PicksFrom, Output.Output}
use Rattle.cfgx_engine.specs.declared.engine.reading.Input.{Input}
use Rattle.cfgx_engine.specs.declared.engine.reading.Input.TheVariants as input
use Rattle.cfgx_engine.specs.Input.{ReadsFront, ReadsInput, input_limit}
use Rattle.cfgx_engine.specs.{Prints.PicksInput, Prints.Prints, Prints.PrintsInput, Request.Request}

-- the bytes that were read are a prefix of the input, and all of it at the end
source_held : (old new : Option (List ℕ)) (front : List ℕ) → Consumes old new front
    → (rest : List ℕ) × Keeps old (Some (front ++ rest)) × (IsAtEnd new → rest ≡ [])
source_held None new front consumed = ([], tt, λ ended. refl)
source_held (Some all) None front consumed = absurd consumed
source_held (Some all) (Some left) front consumed = (left, sym consumed, λ ended. ended)

-- an input that was read to its end is a prefix that was read
pub ReadsFront-read : {A : Type 0} (old new : Option (List ℕ)) (given : Input A)
    → ReadsInput {A = A} old new (Ok given) → ReadsFront old new
ReadsFront-read old new (input.Bytes bytes) reads =
    (bytes.items, omega (arith, reads.0), reads.1)
ReadsFront-read old new input.TooLong reads = (reads.0, omega (arith, reads.1), reads.2)

-- the output on the input that was read is that on the input that the source holds
pub PicksInput-read : {A : Type 0} (answer : Question → Option Bool) (old new : Option (List ℕ))
    (shown : Output) (given : Input A) → ReadsInput {A = A} old new (Ok given)
    → PicksFrom {A = A} answer given shown → PicksInput answer old shown
PicksInput-read answer old new shown (input.Bytes bytes) reads picks =
    let held = source_held old new bytes.items reads.1 in (
      bytes.items ++ held.0,
      held.1,
      rw (held.2 reads.2, append-nil) (record {
        of_long = λ long. absurd (omega (arith, long, reads.0));
        of_other_bytes = λ _ other. picks.0 other;
        of_text = λ _ utf8. picks.1 utf8;
      }),
    )
PicksInput-read answer old new shown input.TooLong reads picks =
    let held = source_held old new reads.0 reads.2 in
    let long : input_limit < length (reads.0 ++ held.0) =
    omega (arith, length-append {A = ℕ}, reads.1) in (
      reads.0 ++ held.0,
      held.1,
      record {
        of_long = λ _. picks;
        of_other_bytes = λ short _. absurd (omega (arith, long, short));
        of_text = λ short _. absurd (omega (arith, long, short));
      },
    )

-- a request with the same output on every input has it on the input that the source holds
pub PrintsInput-any : (given : Request) (held : Option (List ℕ)) (shown : Output)
    {request : Request} → given ≡ request → ((input : List ℕ) → Prints given input shown)
    → PrintsInput request held shown
PrintsInput-any given None shown is prints = ([], tt, rw (← is) (prints []))
PrintsInput-any given (Some all) shown is prints = (all, refl, rw (← is) (prints all))
