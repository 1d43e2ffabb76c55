-- The span of a fault lies in the text as it was passed.
use Rattle.std.proofs.Common.{◌≡◌, ◌+◌, ◌≤◌, ℕ, Bool, true, false, List, [], ◌∷◌, Option, Some}
use Rattle.std.proofs.Common.{None, arith, inl, inr, length, refl, subst, sym, take}
use Rattle.std.specs.Prelude.{IfSome, IsSomeAnd, codes, if◌then◌else◌, is_some, unwrap_or}
use Rattle.std.specs.Str.{IsValidUpTo, bytes_eq}
use Rattle.cfgx_syntax.proofs.{ItemSpans.LiesIn-lexical, Wrapping.strip-stands}
use Rattle.cfgx_syntax.specs.Error.{Fault}
use Rattle.cfgx_syntax.specs.Items.{Ending, EndsAs, Item, ItemsFrom, lexical}
use Rattle.cfgx_syntax.specs.Spans.{LiesIn}
use Rattle.cfgx_syntax.specs.Stripping.{strip, strip_offset}
use Rattle.cfgx_grammar.proofs.FoundFaults.{IsSound-first}
use Rattle.cfgx_engine.specs.Facts.{fact_text, unknown_text}
use Rattle.cfgx_c.specs.Faults.{HasFactFault, HasFault, HasNoUtf8, HasSpanIn, HasSpanInItem}
use Rattle.cfgx_c.specs.Faults.{IsFirst, Tells, c_fault, fact_offset, utf8_fault}
use Rattle.cfgx_c.specs.Status.{faulty, faulty_fact, not_utf8}
use Rattle.cfgx_c.specs.Tokens.{IsNoUtf8, ListsTokens, TellsLexical}
use Rattle.cfgx_c.specs.declared.{fault.CfgxFault.CfgxFault, tokens.CfgxToken.CfgxToken}

-- a span of the stripped text, which begins at `offset` in the text
lies_behind : (text part : List ℕ) (offset start end : ℕ) → length part + offset ≤ length text
    → LiesIn part start end → LiesIn text (offset + start) (offset + end)
lies_behind text part offset start end within lies = record {
  ordered = omega (arith, lies.ordered);
  inside = omega (arith, lies.inside, within);
}

module _ (text : List ℕ) (fault : CfgxFault) where
  -- a fault whose span is that of a fault of a part of the text
  HasSpanIn-part : (part : List ℕ) (item offset : ℕ) (found : Fault)
      → length part + offset ≤ length text → LiesIn part found.start found.end
      → fault ≡ c_fault item offset found → HasSpanIn fault text
  HasSpanIn-part part item offset found within lies is =
      rw is (lies_behind text part offset found.start found.end within lies)

  HasSpanIn-fault : HasFault text fault → HasSpanIn fault text
  HasSpanIn-fault (utf8, (found, reads, is)) =
      HasSpanIn-part (strip text) fault.item (strip_offset text) found (strip-stands text).1
      (IsSound-first (strip text) found reads.has).lies is

  HasSpanIn-bytes : (item start : ℕ) → IsValidUpTo text start → fault ≡ utf8_fault item start
      → HasSpanIn fault text
  HasSpanIn-bytes item start valid is =
      rw is (let short = valid.short in record { ordered = omega arith; inside = omega arith })

  HasSpanIn-no_utf8 : HasNoUtf8 text fault → HasSpanIn fault text
  HasSpanIn-no_utf8 (start, valid, is) = HasSpanIn-bytes fault.item start valid is

-- what follows a `?` in front is shorter than the fact
shorter : (byte : ℕ) (bytes : List ℕ) (marked : Bool)
    → IfSome (if marked then Some bytes else None)
    (λ text. length text + 1 ≤ length (byte ∷ bytes))
shorter byte bytes true = omega arith
shorter byte bytes false = tt

stands_by : (fact : List ℕ) (unknown : Option (List ℕ))
    → IfSome unknown (λ text. length text + 1 ≤ length fact)
    → let text = unwrap_or unknown fact in
    length (strip text) + (if is_some unknown then strip_offset text + 1 else strip_offset fact)
    ≤ length fact
stands_by fact None short = (strip-stands fact).1
stands_by fact (Some text) short = omega (arith, short, (strip-stands text).1)

-- the stripped text of a fact stands in the fact, behind `fact_offset` bytes
fact_stands : (fact : List ℕ) → length (strip (fact_text fact)) + fact_offset fact ≤ length fact
fact_stands [] = stands_by [] None tt
fact_stands (byte ∷ bytes) =
    let marked = bytes_eq (take 1 (byte ∷ bytes)) (codes "?") in
    stands_by (byte ∷ bytes) (unknown_text (byte ∷ bytes)) (shorter byte bytes marked)

HasSpanIn-fact : (fact : List ℕ) (fault : CfgxFault) → HasFactFault fact fault
    → HasSpanIn fault fact
HasSpanIn-fact fact fault (utf8, (not_read, found, reads, is)) =
    HasSpanIn-part fact fault (strip (fact_text fact)) fault.item (fact_offset fact) found
    (fact_stands fact) (IsSound-first (strip (fact_text fact)) found reads.has).lies is

-- the first item that is not good has the span
module _ (Good : List ℕ → Type 0) (Has : List ℕ → CfgxFault → Type 0) where
  HasSpanInItem-first : (items : List (List ℕ)) (fault : CfgxFault)
      → ((text : List ℕ) → Has text fault → HasSpanIn fault text)
      → IsFirst Good Has items fault.item fault → HasSpanInItem items fault
  HasSpanInItem-first items fault spans first =
      subst (λ found. IsSomeAnd found (HasSpanIn fault)) (sym first.stands)
      (spans first.item first.has)

module _ (facts texts : List (List ℕ)) (status : ℕ) (fault : CfgxFault)
    (tells : Tells facts texts status fault) where
  pub HasSpanInItem-text : status ≡ faulty → HasSpanInItem texts fault
  HasSpanInItem-text is =
      HasSpanInItem-first _ HasFault texts fault (λ text. HasSpanIn-fault text fault)
      (tells.of_text is).2

  pub HasSpanInItem-bytes : status ≡ not_utf8 → HasSpanInItem texts fault
  HasSpanInItem-bytes is =
      HasSpanInItem-first _ HasNoUtf8 texts fault (λ text. HasSpanIn-no_utf8 text fault)
      (tells.of_bytes is).1

  pub HasSpanInItem-fact : status ≡ faulty_fact → HasSpanInItem facts fault
  HasSpanInItem-fact is =
      elim (tells.of_fact is) [
        | inl no_utf8 ↦ HasSpanInItem-first _ HasNoUtf8 facts fault
            (λ fact. HasSpanIn-no_utf8 fact fault) no_utf8
        | inr faulty ↦ HasSpanInItem-first _ HasFactFault facts fault
            (λ fact. HasSpanIn-fact fact fault) faulty.1
      ]

-- Faults of tokens.

-- the ending of the tokens of a text
ends : (text : List ℕ) (from : ℕ) (items : List Item) (ending : Ending)
    → ItemsFrom text from items ending → (place : ℕ) × EndsAs text place ending
ends text from [] ending come = (from, come)
ends text from (item ∷ items) ending come = ends text item.end items ending come.1

lexical_span : (text : List ℕ) (error : Option Fault) (status : ℕ) (fault : CfgxFault)
    → TellsLexical text error status fault → status ≡ faulty
    → ((found : Fault) → error ≡ Some found → LiesIn (strip text) found.start found.end)
    → HasSpanIn fault text
lexical_span text None status fault tells is lies =
    let done = tells.0 in absurd (omega (arith, done, is))
lexical_span text (Some found) status fault tells is lies =
    HasSpanIn-part text fault (strip text) 0 (strip_offset text) found (strip-stands text).1
    (lies found refl) tells.1

pub HasSpanIn-tokens : (text : List ℕ) (status : ℕ) (old new : List CfgxToken) (needed : ℕ)
    (fault : CfgxFault) → ListsTokens text status old new needed fault → status ≡ faulty
    → HasSpanIn fault text
HasSpanIn-tokens text status old new needed fault lists is =
    let stripped = strip text in
    let (place, come) = ends stripped 0 lists.items lists.ending lists.are_items in
    lexical_span text (lexical stripped lists.ending) status fault lists.tells is
    (λ found. LiesIn-lexical stripped place lists.ending found come)

pub HasSpanIn-tokens_bytes : (text : List ℕ) (fault : CfgxFault) (offset : ℕ)
    → IsNoUtf8 text fault offset → HasSpanIn fault text
HasSpanIn-tokens_bytes text fault offset (start, valid, is, none) =
    HasSpanIn-bytes text fault 0 start valid is
