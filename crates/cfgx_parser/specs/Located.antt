-- A predicate where it stands: it has the spans of its texts, and not their bytes.
use Rattle.std.specs.Prelude.{ℕ, ◌+◌, ◌≤◌, ◌==◌, List, length, slice_range}
use Rattle.std.specs.Prelude.{Option, Some, None, unwrap_or, if◌then◌else◌}
use Rattle.cfgx_syntax.specs.Cut.{IsCut}
use Rattle.cfgx_grammar.specs.Question.{Question}
use Rattle.cfgx_parser.specs.Asked.{question_with, without_texts}
use Rattle.cfgx_parser.specs.declared.asked.Asked.{Asked}
use Rattle.cfgx_parser.specs.declared.asked.Asked.TheVariants as asked
use Rattle.cfgx_parser.specs.declared.asked.AskedTarget.TheVariants as target
use Rattle.cfgx_parser.specs.declared.located.LocatedPredicate.{LocatedPredicate}
use Rattle.cfgx_parser.specs.declared.located.Span.{Span}

-- the predicate with these spans; without a value, the span of the key stands for that of the value
abbrev pub predicate_located : Span → Option Span → Question → LocatedPredicate
predicate_located key value question = record {
  asked = without_texts question;
  key = key;
  value = unwrap_or value key;
}

-- from the key to behind the quote that ends the value, or to the end of a key without a value
abbrev pub whole_span : LocatedPredicate → Span
whole_span predicate = record {
  start = predicate.key.start;
  end = if predicate.value.start == predicate.key.start then predicate.key.end
      else predicate.value.end + 1;
}

-- the span of the key, if it has no meaning of its own
abbrev pub key_span : Asked → Span → Option Span
key_span asked.Flag span = Some span
key_span asked.KeyValue span = Some span
key_span _ span = None

-- the span of the value, if it is a text
abbrev pub value_span : Asked → Span → Option Span
value_span (asked.Target (target.Text key)) span = Some span
value_span asked.Feature span = Some span
value_span asked.TargetFeature span = Some span
value_span asked.KeyValue span = Some span
value_span _ span = None

-- the bytes of the text at the span
abbrev pub at : List ℕ → Span → List ℕ
at text span = slice_range text span.start span.end

-- what the predicate asks, whose spans are those of the text
abbrev pub question_at : List ℕ → LocatedPredicate → Question
question_at text predicate =
    question_with (at text predicate.key) (at text predicate.value) predicate.asked

-- the text can be cut at both ends of the span
abbrev pub IsSpan : List ℕ → Span → Type 0
IsSpan text span = IsCut text span.start span.end

-- the text can be cut at the spans of key and value, and the whole predicate ends in the text
abbrev pub HasCut : List ℕ → LocatedPredicate → Type 0
HasCut text predicate = IsSpan text predicate.key × IsSpan text predicate.value
    × ((whole_span predicate).end ≤ length text)
