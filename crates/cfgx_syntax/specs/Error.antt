-- Faults of cfg texts, as plain bytes and numbers, and the texts that they print.
-- Source of the texts: `cfg-expr` 0.20.10, `impl Display for Reason`, `impl Display for ParseError`
-- and `ParseError::description`.
use Rattle.std.specs.Prelude.{◌≡◌, ℕ, ◌-◌, List, [], ◌∷◌, ◌++◌, codes, map, replicate, Option, Some}
use Rattle.std.specs.Prelude.{None, slice_index, Bool, nat_eq}
use Rattle.std.specs.{List.flat_map, Fmt.decimal, String.string_bytes, Str.bytes_eq}
use Rattle.std.specs.{Cmp.Lexicographic.pointwise, Ordering.on, Ordering.eq_of_both}
use Rattle.cfgx_syntax.specs.{declared.error.Reason.Reason, declared.error.Failure.Failure}
use Rattle.cfgx_syntax.specs.declared.error.Reason.TheVariants as reason
use Rattle.cfgx_syntax.specs.declared.error.ParseError.{ParseError}
use Rattle.cfgx_syntax.specs.declared.error.Failure.TheVariants as failure

-- a `Reason` of the program, with the terms of `Unexpected` as bytes, so that no address counts
pub data Cause : Type 0 where
  invalid_not : ℕ → Cause
  invalid_characters : Cause
  unclosed_parens : Cause
  unopened_parens : Cause
  unclosed_quotes : Cause
  unopened_quotes : Cause
  empty : Cause
  unexpected : List (List ℕ) → Cause
  invalid_integer : Cause
  multiple_root_predicates : Cause
  invalid_has_atomic : Cause
  unknown_builtin : Cause

-- the cause that a reason of the program stands for
abbrev pub cause_of : Reason → Cause
cause_of (reason.InvalidNot found) = invalid_not found
cause_of reason.InvalidCharacters = invalid_characters
cause_of reason.UnclosedParens = unclosed_parens
cause_of reason.UnopenedParens = unopened_parens
cause_of reason.UnclosedQuotes = unclosed_quotes
cause_of reason.UnopenedQuotes = unopened_quotes
cause_of reason.Empty = empty
cause_of (reason.Unexpected terms) = unexpected (map (λ t. t.now) terms.now)
cause_of reason.InvalidInteger = invalid_integer
cause_of reason.MultipleRootPredicates = multiple_root_predicates
cause_of reason.InvalidHasAtomic = invalid_has_atomic
cause_of reason.UnknownBuiltin = unknown_builtin

-- the number of a cause, in the order of the cases from 1 on
abbrev pub cause_number : Cause → ℕ
cause_number (invalid_not _) = 1
cause_number invalid_characters = 2
cause_number unclosed_parens = 3
cause_number unopened_parens = 4
cause_number unclosed_quotes = 5
cause_number unopened_quotes = 6
cause_number empty = 7
cause_number (unexpected _) = 8
cause_number invalid_integer = 9
cause_number multiple_root_predicates = 10
cause_number invalid_has_atomic = 11
cause_number unknown_builtin = 12

-- the number of members of a `not` that has too few or too many of them, and 0 for every other
-- cause
abbrev pub cause_members : Cause → ℕ
cause_members (invalid_not found) = found
cause_members _ = 0

-- the terms of a cause, if it has any
abbrev pub cause_terms : Cause → List (List ℕ)
cause_terms (unexpected terms) = terms
cause_terms _ = []

-- whether both lists have the same texts in the same order
abbrev pub texts_eq : List (List ℕ) → List (List ℕ) → Bool
texts_eq = pointwise bytes_eq

-- whether two causes have the same number, members and terms
abbrev pub cause_eq : Cause → Cause → Bool
cause_eq = eq_of_both (on cause_number nat_eq)
    (eq_of_both (on cause_members nat_eq) (on cause_terms texts_eq))

-- a term between back quotes
abbrev pub quoted : List ℕ → List ℕ
quoted term = codes "`" ++ term ++ codes "`"

-- terms between back quotes, each after a comma and a space
abbrev pub more_terms_text : List (List ℕ) → List ℕ
more_terms_text terms = flat_map (λ term. codes ", " ++ quoted term) terms

-- the words before the first expected term, by the terms after it
abbrev pub opening_words : List (List ℕ) → List ℕ
opening_words [] = codes "expected a "
opening_words (_ ∷ _) = codes "expected one of "

-- what `Unexpected` prints: that no term was expected, the one term, or the several terms
abbrev pub unexpected_text : List (List ℕ) → List ℕ
unexpected_text [] = codes "the term was not expected here"
unexpected_text (term ∷ others) =
    opening_words others ++ quoted term ++ more_terms_text others ++ codes " here"

-- what a reason prints
abbrev pub reason_text : Cause → List ℕ
reason_text (invalid_not found) = codes "not() takes 1 predicate, found " ++ decimal found
reason_text invalid_characters = codes "invalid character(s)"
reason_text unclosed_parens = codes "unclosed parens"
reason_text unopened_parens = codes "unopened parens"
reason_text unclosed_quotes = codes "unclosed quotes"
reason_text unopened_quotes = codes "unopened quotes"
reason_text empty = codes "empty expression"
reason_text (unexpected terms) = unexpected_text terms
reason_text invalid_integer = codes "invalid integer"
reason_text multiple_root_predicates = codes "multiple root predicates"
reason_text invalid_has_atomic = codes "expected integer or \"ptr\""
reason_text unknown_builtin = codes "unknown built-in"

-- the short description of a reason, without numbers and terms
abbrev pub description_of : Cause → List ℕ
description_of (invalid_not _) = codes "not() takes 1 predicate"
description_of (unexpected _) = codes "unexpected term"
description_of cause = reason_text cause

-- a fault: a cause, and the bytes `start..end` of the text that are at fault
pub record Fault : Type 0 where
  pub cause : Cause
  pub start : ℕ
  pub end : ℕ

-- a fault with the text that it is in
pub record TextFault : Type 0 where
  pub original : List ℕ
  pub start : ℕ
  pub end : ℕ
  pub cause : Cause

-- whether two faults have the same text, span and cause
abbrev pub fault_eq : TextFault → TextFault → Bool
fault_eq = eq_of_both (on (λ f. f.original) bytes_eq)
    (eq_of_both (eq_of_both (on (λ f. f.start) nat_eq) (on (λ f. f.end) nat_eq))
    (on (λ f. f.cause) cause_eq))

-- the fault as one of `text`
abbrev pub fault_in : List ℕ → Fault → TextFault
fault_in text fault = record {
  original = text;
  start = fault.start;
  end = fault.end;
  cause = fault.cause;
}

-- the byte of a text of one byte
abbrev pub only_byte : List ℕ → ℕ
only_byte text = slice_index text 0

-- the marks below a span: one where something is never closed or was never opened, else one below
-- each of the `width` bytes
abbrev pub marks : ℕ → Cause → List ℕ
marks width unclosed_parens = codes "-"
marks width unclosed_quotes = codes "-"
marks width unopened_parens = codes "^"
marks width unopened_quotes = codes "^"
marks width cause = replicate width (only_byte (codes "^"))

-- what a fault prints: the text, a line feed, a space for each byte before the span, the marks, a
-- space and the reason
abbrev pub error_text : TextFault → List ℕ
error_text fault = fault.original ++ codes "\n" ++ replicate fault.start (only_byte (codes " "))
    ++ marks (fault.end - fault.start) fault.cause ++ codes " " ++ reason_text fault.cause

-- the fault that a `ParseError` of the program stands for
abbrev pub fault_of : {A : Type 0} → ParseError A → TextFault
fault_of e = record {
  original = string_bytes e.original;
  start = e.span.start;
  end = e.span.end;
  cause = cause_of e.reason;
}

-- the fault of a failure, or none if the call ran out of memory
abbrev pub failure_of : {A : Type 0} → Failure A → Option TextFault
failure_of (failure.Parse error) = Some (fault_of error)
failure_of (failure.Memory _) = None

-- the failure is `fault`, or the call ran out of memory for the copy of the text
abbrev pub FailsWith : {A : Type 0} → TextFault → Failure A → Type 0
FailsWith fault (failure.Parse error) = fault_of error ≡ fault
FailsWith fault (failure.Memory error) = Unit {0}
