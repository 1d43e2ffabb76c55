-- What the proved callers return.
use Rattle.std.specs.Prelude.{ℕ, Bool, false, List, codes, Result, Ok, Err}
use Rattle.std.specs.Borrow.{Bor}
use Rattle.std.specs.List.{list_any}
use Rattle.std.specs.Str.{bytes_eq}
use Rattle.cfgx_syntax.specs.declared.error.Failure.{Failure}
use Rattle.cfgx_syntax.specs.declared.error.Failure.TheVariants as failure
use Rattle.cfgx_grammar.specs.Question.{Question}
use Rattle.cfgx_grammar.specs.WellFormed.{IsAlone}
use Rattle.cfgx_examples.specs.Terms.{cut}

-- whether a predicate is one of `flags`; a flag is a bare key without another meaning
abbrev pub is_among : List (Bor (List ℕ)) → Question → Bool
is_among flags (Question.flag name) = list_any (λ flag. bytes_eq flag.now name) flags
is_among flags question = false

-- the term of a predicate: its name if it is a flag, and otherwise `?`
abbrev pub term_of : Question → List ℕ
term_of (Question.flag name) = cut name
term_of question = codes "?"

-- the call returned an expression that asks this predicate alone, or it ran out of memory
abbrev pub IsReadAlone : {A : Type 0} → Question → Result (List ℕ) (Failure A) → Type 0
IsReadAlone question (Ok expression) = IsAlone expression question
IsReadAlone question (Err (failure.Parse error)) = ⊥
IsReadAlone question (Err (failure.Memory error)) = Unit {0}
