-- The spans of a predicate lie in the text as it was passed.
use Rattle.std.proofs.Common.{ℕ, List, [], ◌∷◌, Option, Some, None, arith, map, subst, sym}
use Rattle.std.specs.Prelude.{IfSome}
use Rattle.std.specs.List.{All, AllZip}
use Rattle.std.proofs.lemmas.List.Elements.{All-cons, All-nil}
use Rattle.cfgx_syntax.proofs.{Wrapping.strip-stands}
use Rattle.cfgx_syntax.specs.Cut.{IsCut}
use Rattle.cfgx_syntax.specs.Spans.{LiesIn}
use Rattle.cfgx_syntax.specs.Stripping.{strip, strip_offset}
use Rattle.cfgx_grammar.specs.Question.{Question}
use Rattle.cfgx_grammar.specs.Tree.{asked}
use Rattle.cfgx_parser.specs.Located.{key_span, value_span, whole_span}
use Rattle.cfgx_parser.specs.declared.asked.Asked.{Asked}
use Rattle.cfgx_parser.specs.declared.asked.Asked.TheVariants as ask
use Rattle.cfgx_parser.specs.declared.asked.AskedTarget.TheVariants as target
use Rattle.cfgx_parser.specs.declared.located.LocatedPredicate.{LocatedPredicate}
use Rattle.cfgx_parser.specs.declared.located.Span.{Span}
use Rattle.cfg_expr.specs.Located.{Locates}
use Rattle.cfgx_c.specs.Predicates.{HasSpansIn, ListsPredicates, c_predicate, moved, moved_or_none}
use Rattle.cfgx_c.specs.declared.predicates.CfgxPredicate.{CfgxPredicate}

-- the span of a key or a value is the given one, or there is none
module _ (P : Span → Type 0) (span : Span) (holds : P span) where
  IfSome-key : (asked : Asked) → IfSome (key_span asked span) P
  IfSome-key ask.Flag = holds
  IfSome-key ask.KeyValue = holds
  IfSome-key ask.Test = tt
  IfSome-key ask.DebugAssertions = tt
  IfSome-key ask.ProcMacro = tt
  IfSome-key ask.Feature = tt
  IfSome-key ask.TargetFeature = tt
  IfSome-key (ask.Target what) = tt

  IfSome-value : (asked : Asked) → IfSome (value_span asked span) P
  IfSome-value ask.Flag = tt
  IfSome-value ask.KeyValue = holds
  IfSome-value ask.Test = tt
  IfSome-value ask.DebugAssertions = tt
  IfSome-value ask.ProcMacro = tt
  IfSome-value ask.Feature = holds
  IfSome-value ask.TargetFeature = holds
  IfSome-value (ask.Target (target.Text key)) = holds
  IfSome-value (ask.Target (target.Endian order)) = tt
  IfSome-value (ask.Target (target.HasAtomic width)) = tt
  IfSome-value (ask.Target (target.PointerWidth bits)) = tt

module _ (text : List ℕ) where
  LiesIn-moved : (span : Span) → LiesIn (strip text) span.start span.end
      → let place = moved (strip_offset text) span in LiesIn text place.start place.end
  LiesIn-moved span lies = record {
    ordered = omega (arith, lies.ordered);
    inside = omega (arith, lies.inside, (strip-stands text).1);
  }

  LiesIn-moved_or_none : (span : Option Span)
      → IfSome span (λ span. IsCut (strip text) span.start span.end)
      → let place = moved_or_none (strip_offset text) span in LiesIn text place.start place.end
  LiesIn-moved_or_none None cut = record { ordered = omega arith; inside = omega arith }
  LiesIn-moved_or_none (Some span) cut =
      LiesIn-moved span (record { ordered = cut.ordered; inside = cut.inside })

  HasSpansIn-located : (question : Question) (predicate : LocatedPredicate)
      → Locates (strip text) question predicate
      → HasSpansIn (c_predicate (strip_offset text) predicate) text
  HasSpansIn-located question predicate locates = record {
    whole = LiesIn-moved (whole_span predicate) locates.lies;
    key = LiesIn-moved_or_none (key_span predicate.asked predicate.key)
        (IfSome-key (λ span. IsCut (strip text) span.start span.end) predicate.key locates.cut.0
        predicate.asked);
    value = LiesIn-moved_or_none (value_span predicate.asked predicate.value)
        (IfSome-value (λ span. IsCut (strip text) span.start span.end) predicate.value
        locates.cut.1 predicate.asked);
  }

  HasSpansIn-each : (questions : List Question) (located : List LocatedPredicate)
      → AllZip (Locates (strip text)) questions located
      → All (λ predicate. HasSpansIn predicate text)
      (map (c_predicate (strip_offset text)) located)
  HasSpansIn-each [] [] each = All-nil (λ predicate. HasSpansIn predicate text)
  HasSpansIn-each [] (predicate ∷ located) each = absurd each
  HasSpansIn-each (question ∷ questions) [] each = absurd each
  HasSpansIn-each (question ∷ questions) (predicate ∷ located) each =
      All-cons (λ predicate. HasSpansIn predicate text)
      (c_predicate (strip_offset text) predicate) (map (c_predicate (strip_offset text)) located)
      (HasSpansIn-located question predicate each.0) (HasSpansIn-each questions located each.1)

  pub HasSpansIn-listed : (list : List CfgxPredicate) → ListsPredicates text list
      → All (λ predicate. HasSpansIn predicate text) list
  HasSpansIn-listed list lists =
      subst (All (λ predicate. HasSpansIn predicate text)) (sym lists.listed)
      (HasSpansIn-each (asked lists.are_located.one.tree) lists.located lists.are_located.each)
