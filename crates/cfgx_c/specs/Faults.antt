-- What is wrong with texts and facts.
-- Source: include/cfgx.h.
use Rattle.std.specs.Prelude.{◌≡◌, ◌≢◌, ◌⊎◌, ◌+◌, ℕ, List, Some, Err, if◌then◌else◌, is_some}
use Rattle.std.specs.Prelude.{IsSomeAnd, slice_get, take}
use Rattle.std.specs.List.{All}
use Rattle.std.specs.Str.{IsUtf8, IsValidUpTo}
use Rattle.cfgx_syntax.specs.Stripping.{strip, strip_offset}
use Rattle.cfgx_syntax.specs.Error.{Fault, cause_members, cause_number}
use Rattle.cfgx_syntax.specs.Spans.{LiesIn}
use Rattle.cfgx_syntax.specs.Terms.{terms_number}
use Rattle.cfgx_grammar.specs.Answer.{HasOneTree, ReadsAs}
use Rattle.cfgx_engine.specs.Facts.{IsRustcFact, fact_text, unknown_text}
use Rattle.cfgx_c.specs.Status.{faulty, faulty_fact, not_utf8}
use Rattle.cfgx_c.specs.declared.fault.CfgxFault.{CfgxFault}

-- each member is 0
abbrev pub no_fault : CfgxFault
no_fault = record {
  item = 0;
  offset = 0;
  start = 0;
  end = 0;
  members = 0;
  reason = 0;
  terms = 0;
}

-- the fault of the item with this number, of which the byte at `start` is the first that is no
-- UTF-8
abbrev pub utf8_fault : ℕ → ℕ → CfgxFault
utf8_fault item start = record no_fault { item = item; start = start; end = start + 1 }

-- the fault of the item with this number as C sees it; `offset` bytes stand before the stripped
-- text
abbrev pub c_fault : ℕ → ℕ → Fault → CfgxFault
c_fault item offset fault = record {
  item = item;
  offset = offset;
  start = fault.start;
  end = fault.end;
  members = cause_members fault.cause;
  reason = cause_number fault.cause;
  terms = terms_number fault.cause;
}

-- how many bytes of a fact stand before its stripped text
abbrev pub fact_offset : List ℕ → ℕ
fact_offset fact = if is_some (unknown_text fact) then strip_offset (fact_text fact) + 1
    else strip_offset fact

-- the text is not UTF-8, and the fault has its first byte that is none
abbrev pub HasNoUtf8 : List ℕ → CfgxFault → Type 0
HasNoUtf8 text fault = (start : ℕ) × IsValidUpTo text start
    × (fault ≡ utf8_fault fault.item start)

-- the stripped text has this fault
abbrev pub IsFaultOf : List ℕ → CfgxFault → Type 0
IsFaultOf text fault = (found : Fault) × ReadsAs (strip text) (Err found)
    × (fault ≡ c_fault fault.item (strip_offset text) found)

-- the text is UTF-8, and has this fault
abbrev pub HasFault : List ℕ → CfgxFault → Type 0
HasFault text fault = IsUtf8 text × IsFaultOf text fault

-- the fact is neither read nor passed over, and its stripped text has this fault
abbrev pub IsFactFaultOf : List ℕ → CfgxFault → Type 0
IsFactFaultOf fact fault = ¬ IsRustcFact fact × (found : Fault)
    × ReadsAs (strip (fact_text fact)) (Err found)
    × (fault ≡ c_fault fault.item (fact_offset fact) found)

-- the fact is UTF-8, is neither read nor passed over, and has this fault
abbrev pub HasFactFault : List ℕ → CfgxFault → Type 0
HasFactFault fact fault = IsUtf8 fact × IsFactFaultOf fact fault

-- a text that is a condition
abbrev pub IsCondition : List ℕ → Type 0
IsCondition text = IsUtf8 text × HasOneTree (strip text)

-- a fact that is read, or passed over
abbrev pub IsFact : List ℕ → Type 0
IsFact fact = IsUtf8 fact × IsRustcFact fact

-- The item with this number, from 0 on, is the first that is not good, and has this fault.
pub record IsFirst (Good : List ℕ → Type 0) (Has : List ℕ → CfgxFault → Type 0)
    (items : List (List ℕ)) (number : ℕ) (fault : CfgxFault) : Type 0 where
  pub item : List ℕ
  pub stands : slice_get items number ≡ Some item
  pub before : All Good (take number items)
  pub has : Has item fault

-- the fault of the first fact that is not UTF-8; or all are UTF-8, and that of the first faulty one
abbrev pub IsFirstOfFacts : List (List ℕ) → CfgxFault → Type 0
IsFirstOfFacts facts fault = IsFirst IsUtf8 HasNoUtf8 facts fault.item fault
    ⊎ (All IsUtf8 facts × IsFirst IsRustcFact HasFactFault facts fault.item fault)

-- What a status and a fault say of the facts and the texts of a call. All facts come before all
-- texts. With a status that is about none of them there is no fault.
pub record Tells (facts texts : List (List ℕ)) (status : ℕ) (fault : CfgxFault) : Type 0 where
  pub of_fact : status ≡ faulty_fact → IsFirstOfFacts facts fault
  pub of_bytes : status ≡ not_utf8
      → All IsFact facts × IsFirst IsUtf8 HasNoUtf8 texts fault.item fault
  pub of_text : status ≡ faulty → All IsFact facts × All IsUtf8 texts
      × IsFirst (λ text. HasOneTree (strip text)) HasFault texts fault.item fault
  pub none : status ≢ faulty_fact → status ≢ not_utf8 → status ≢ faulty → fault ≡ no_fault

-- the span of the fault, behind the `offset` bytes that were stripped, lies in the text as it was
-- passed
abbrev pub HasSpanIn : CfgxFault → List ℕ → Type 0
HasSpanIn fault text = LiesIn text (fault.offset + fault.start) (fault.offset + fault.end)

-- one of the items has the number of the fault, and the span of the fault lies in it
abbrev pub HasSpanInItem : List (List ℕ) → CfgxFault → Type 0
HasSpanInItem items fault = IsSomeAnd (slice_get items fault.item) (HasSpanIn fault)
