-- What `cfgx_predicates` lists.
-- Source: include/cfgx.h.
use Rattle.std.specs.Prelude.{◌≡◌, ◌+◌, ℕ, List, Option, Some, None, map, unwrap_or}
use Rattle.cfgx_fields.specs.declared.atomic.HasAtomic.TheVariants.{Pointer}
use Rattle.cfgx_syntax.specs.Spans.{LiesIn}
use Rattle.cfgx_syntax.specs.Stripping.{strip, strip_offset}
use Rattle.cfgx_parser.specs.Asked.{asked_number, kind_number}
use Rattle.cfgx_parser.specs.Located.{key_span, value_span, whole_span}
use Rattle.cfgx_parser.specs.declared.asked.Asked.{Asked}
use Rattle.cfgx_parser.specs.declared.asked.Asked.TheVariants as asked
use Rattle.cfgx_parser.specs.declared.asked.AskedTarget.TheVariants as target
use Rattle.cfgx_parser.specs.declared.located.LocatedPredicate.{LocatedPredicate}
use Rattle.cfgx_parser.specs.declared.located.Span.{Span}
use Rattle.cfg_expr.specs.Located.{AreLocated}
use Rattle.cfgx_c.specs.declared.predicates.CfgxPredicate.{CfgxPredicate}

-- the number of what is asked, that above all others for an atomic of the width `ptr`, or 0
abbrev pub c_number : Asked → ℕ
c_number (asked.Target (target.HasAtomic Pointer)) = 65536
c_number one = unwrap_or (asked_number one) 0

-- the span with `offset` more bytes before it
abbrev pub moved : ℕ → Span → Span
moved offset span = record { start = span.start + offset; end = span.end + offset }

-- the same, or that from 0 to 0 if there is no span
abbrev pub moved_or_none : ℕ → Option Span → Span
moved_or_none offset None = record { start = 0; end = 0 }
moved_or_none offset (Some span) = moved offset span

-- the predicate as C sees it; `offset` bytes were stripped before its text
abbrev pub c_predicate : ℕ → LocatedPredicate → CfgxPredicate
c_predicate offset one = record {
  kind = kind_number one.asked;
  number = c_number one.asked;
  start = (whole_span one).start + offset;
  end = (whole_span one).end + offset;
  key_start = (moved_or_none offset (key_span one.asked one.key)).start;
  key_end = (moved_or_none offset (key_span one.asked one.key)).end;
  value_start = (moved_or_none offset (value_span one.asked one.value)).start;
  value_end = (moved_or_none offset (value_span one.asked one.value)).end;
}

-- the spans of the whole predicate, of its key and of its value lie in the text
pub record HasSpansIn (predicate : CfgxPredicate) (text : List ℕ) : Type 0 where
  pub whole : LiesIn text predicate.start predicate.end
  pub key : LiesIn text predicate.key_start predicate.key_end
  pub value : LiesIn text predicate.value_start predicate.value_end

-- the predicates are those of the stripped text where they stand, with spans in the text as passed
pub record ListsPredicates (text : List ℕ) (predicates : List CfgxPredicate) : Type 0 where
  pub located : List LocatedPredicate
  pub are_located : AreLocated (strip text) located
  pub listed : predicates ≡ map (c_predicate (strip_offset text)) located
