-- Why texts and facts cannot be read.
use Rattle.std.proofs.Common.{◌≡◌, ◌∙◌, ◌+◌, ◌-◌, ◌≤◌, ℕ, suc, All, Bor, List, []}
use Rattle.std.proofs.Common.{◌∷◌, ◌++◌, Err, IfSome, ap, arith, drop, inl, inr, length}
use Rattle.std.proofs.Common.{Some, get_or, refl, subst, sym, take}
use Rattle.std.proofs.Math.Seq.{take-add, take-append_seam, take-length}
use Rattle.std.proofs.lemmas.Grind.{common_steps, elements}
use Rattle.std.proofs.lemmas.List.{drop-map, get_or-map, length-map, take-map, take-take}
use Rattle.std.proofs.lemmas.List.Elements.{All-append, All-cons, All-from_recursion, All-nil}
use Rattle.std.proofs.lemmas.Option.{get_or_from_slice_get, gets, slice_get_within}
use Rattle.std.specs.List.{AllByRecursion, slice_get, slice_range}
use Rattle.std.specs.Str.{IsUtf8}
use Rattle.cfgx_syntax.specs.{Error.TextFault, Stripping.strip, Stripping.strip_offset}
use Rattle.cfgx_syntax.specs.Error.{Fault, failure_of, fault_in, fault_of}
use Rattle.cfgx_syntax.specs.declared.error.Failure.{Failure}
use Rattle.cfgx_syntax.specs.declared.error.Failure.TheVariants as failure
use Rattle.cfgx_syntax.specs.declared.error.ParseError.{ParseError}
use Rattle.cfgx_syntax.specs.declared.stripping.Stripped.{Stripped}
use Rattle.cfgx_grammar.specs.Answer.{Answers, HasOneTree}
use Rattle.cfgx_engine.specs.Audits.{IsFirstFault}
use Rattle.cfgx_engine.specs.Facts.{IsRustcFact, ReadsFacts}
use Rattle.cfgx_engine.specs.declared.resolve.facts.FactsError.TheVariants as facts_error
use Rattle.cfgx_c.specs.Ends.{parts_from}
use Rattle.cfgx_c.specs.Faults.{HasFactFault, HasFault, HasNoUtf8, IsFact, IsFirst, IsFirstOfFacts}
use Rattle.cfgx_c.specs.Faults.{IsCondition, IsFactFaultOf, IsFaultOf}
use Rattle.cfgx_c.specs.Faults.{c_fault, fact_offset}
use Rattle.cfgx_c.specs.Status.{faulty, faulty_fact, not_utf8}
use Rattle.cfgx_c.specs.declared.fault.{CfgxFault.CfgxFault, Refusal.Refusal}
use Rattle.cfgx_c.specs.internal.Refusals.{IsAbout, IsFirstFrom, IsStripped, IsThatOfFirst}
use Rattle.cfgx_c.specs.internal.Refusals.{Refuses}
use Rattle.cfgx_c.specs.internal.Refusals.{RefusesText, fault_at, text_refusal, text_statuses}
use Rattle.cfgx_c.specs.internal.Refusals.{views}

-- The first item that is not good.

module _ (Good : List ℕ → Type 0) (Has : List ℕ → CfgxFault → Type 0) where
  -- an item behind good ones
  pub IsFirst-seam : (front : List (List ℕ)) (item : List ℕ) (after : List (List ℕ))
      (fault : CfgxFault) → All Good front → Has item fault
      → IsFirst Good Has (front ++ item ∷ after) (length front) fault
  IsFirst-seam front item after fault good has =
      grind (arith, common_steps, gets, take-append_seam)

  -- the first one of a piece, behind good items
  pub IsFirst-piece : (items : List (List ℕ)) (begin end index : ℕ) (fault : CfgxFault)
      → begin ≤ end → All Good (take begin items)
      → IsFirst Good Has (slice_range items begin end) index fault
      → IsFirst Good Has items (begin + index) fault
  IsFirst-piece items begin end index fault rises good first =
      let piece = slice_range items begin end in
      let below = slice_get_within piece index first.item first.stands in
      let few : index ≤ end - begin = grind (arith, elements) in
      record {
        item = first.item;
        stands = let stands = first.stands in
            grind (arith, common_steps, gets, get_or_from_slice_get);
        before = rw take-add (All-append Good (take begin items) (take index (drop begin items))
            good (rw (take-take index (end - begin) (drop begin items) few) at first.before));
        has = first.has;
      }

  -- the item is UTF-8, as all are
  IsFirst-utf8 : (items : List (List ℕ)) (number : ℕ) (fault : CfgxFault) → All IsUtf8 items
      → IsFirst Good Has items number fault
      → IsFirst Good (λ item found. IsUtf8 item × Has item found) items number fault
  IsFirst-utf8 items number fault utf8 first =
      let below = slice_get_within items number first.item first.stands in
      let item = get_or_from_slice_get items number first.item first.item first.stands in
      record {
        item = first.item;
        stands = first.stands;
        before = first.before;
        has = (rw item at (utf8 number first.item below), first.has);
      }

-- facts that are read from texts in UTF-8
pub all_facts : (facts : List (List ℕ)) → All IsUtf8 facts → All IsRustcFact facts
    → All IsFact facts
all_facts facts utf8 accepted i d below = (utf8 i d below, accepted i d below)

-- texts in UTF-8 that have one tree each
pub all_conditions : (texts : List (List ℕ)) → All IsUtf8 texts
    → AllByRecursion (λ text. HasOneTree (strip text)) texts → All IsCondition texts
all_conditions texts utf8 one i d below =
    (utf8 i d below, All-from_recursion (λ text. HasOneTree (strip text)) texts one i d below)

-- What is known of a refusal.

module _ (facts texts : List (List ℕ)) (refusal : Refusal) where
  -- of a call that cannot read its facts
  pub Refuses-facts : IsAbout faulty_fact (IsFirstOfFacts facts) refusal
      → Refuses facts texts refusal
  Refuses-facts about = grind arith

  -- of a call that reads its facts, and then finds a text that is not UTF-8, or a faulty one
  pub Refuses-bytes : All IsFact facts
      → IsAbout not_utf8 (IsThatOfFirst IsUtf8 HasNoUtf8 texts) refusal
      → Refuses facts texts refusal
  Refuses-bytes good about = grind arith

  Refuses-faulty : All IsFact facts → All IsUtf8 texts
      → IsAbout faulty (IsThatOfFirst (λ text. HasOneTree (strip text)) HasFault texts) refusal
      → Refuses facts texts refusal
  Refuses-faulty good utf8 about = grind arith

  pub Refuses-texts : All IsFact facts → All IsUtf8 texts
      → IsAbout faulty (IsThatOfFirst (λ text. HasOneTree (strip text)) IsFaultOf texts) refusal
      → Refuses facts texts refusal
  Refuses-texts good utf8 (inl plain) = Refuses-faulty good utf8 (inl plain)
  Refuses-texts good utf8 (inr (is, first)) = Refuses-faulty good utf8 (inr (
    is,
    IsFirst-utf8 (λ text. HasOneTree (strip text)) IsFaultOf texts refusal.fault.item
        refusal.fault utf8 first,
  ))

  -- of a call whose facts are UTF-8, and that finds a faulty one
  pub Refuses-read : All IsUtf8 facts
      → IsAbout faulty_fact (IsFirstFrom 0 IsRustcFact IsFactFaultOf facts) refusal
      → Refuses facts texts refusal
  Refuses-read utf8 (inl plain) = Refuses-facts (inl plain)
  Refuses-read utf8 (inr (is, (index, number, first))) =
      let same = subst (λ n. IsFirst IsRustcFact IsFactFaultOf facts n refusal.fault)
      (omega (arith, number)) first in
      Refuses-facts (inr (
        is,
        inr (
          utf8,
          IsFirst-utf8 IsRustcFact IsFactFaultOf facts refusal.fault.item refusal.fault utf8 same,
        ),
      ))

-- of a call with one text that reads its facts
pub Refuses-text : (facts : List (List ℕ)) (text : List ℕ) (refusal : Refusal) → All IsFact facts
    → RefusesText text text_statuses refusal → Refuses facts (text ∷ []) refusal
Refuses-text facts text refusal good refuses = grind arith

-- of a call with words of which one is not UTF-8
pub not_all_utf8 : (words : List (List ℕ)) (refusal : Refusal) → refusal.status ≡ not_utf8
    → IsAbout not_utf8 (IsThatOfFirst IsUtf8 HasNoUtf8 words) refusal → ¬ All IsUtf8 words
not_all_utf8 words refusal is (inl plain) all =
    omega (arith, is, ap (λ (r : Refusal). r.status) plain)
not_all_utf8 words refusal is (inr (same, first)) all =
    let valid = first.has.1 in
    let number = refusal.fault.item in
    let below = slice_get_within words number first.item first.stands in
    let item = get_or_from_slice_get words number first.item first.item first.stands in
    let good = rw item at (all number first.item below) in
    valid.longest (length first.item) valid.short (rw (take-length first.item) good)

-- What cannot be read, and its fault.

same_fault : {A : Type 0} (text : List ℕ) (error : ParseError A) (found : Fault)
    → fault_of {A = A} error ≡ fault_in text found → fault_at {A = A} error ≡ found
same_fault text error found is =
    let fault : TextFault → Fault = λ f.
    record { cause = f.cause; start = f.start; end = f.end } in
    ap fault is

-- the item at an index of a list that is seen through references
item_seen : (slice : List (Bor (List ℕ))) (index : ℕ) (d : Bor (List ℕ)) (item : List ℕ)
    → slice_get (views slice) index ≡ Some item → (get_or slice index d).now ≡ item
item_seen slice index d item stands =
    let below = slice_get_within (views slice) index item stands in
    sym (get_or-map (λ text. text.now) slice index d []
    (omega (arith, below, length-map slice (λ text. text.now))))
    ∙ get_or_from_slice_get (views slice) index item [] stands

pub text_refused : {A : Type 0} (slice : List (Bor (List ℕ))) (index : ℕ) (d : Bor (List ℕ))
    (failed : Failure A)
    → IfSome (failure_of {A = A} failed) (IsFirstFault (views slice) index)
    → IsAbout faulty (IsThatOfFirst (λ text. HasOneTree (strip text)) IsFaultOf (views slice))
    (text_refusal {A = A} index (strip_offset (get_or slice index d).now) failed)
text_refused {A} slice index d (failure.Memory refused) first = inl refl
text_refused {A} slice index d (failure.Parse error) first =
    let (found, reads, is) = first.parses in
    let fault = ap (λ text. c_fault index (strip_offset text) (fault_at {A = A} error))
    (item_seen slice index d first.text first.stands)
    ∙ ap (c_fault index (strip_offset first.text)) (same_fault {A = A} _ error found is) in
    inr (
      refl,
      record {
        item = first.text;
        stands = first.stands;
        before = All-from_recursion (λ text. HasOneTree (strip text)) (take index (views slice))
            first.before;
        has = (found, reads, fault);
      },
    )

pub fact_refused : {A : Type 0} (begin : ℕ) (slice : List (Bor (List ℕ))) (index : ℕ)
    (d : Bor (List ℕ)) (error : ParseError A)
    → ReadsFacts {A = A} IsRustcFact (views slice) (Err (facts_error.Faulty index error))
    → IsFirstFrom begin IsRustcFact IsFactFaultOf (views slice)
    (c_fault (begin + index) (fact_offset (get_or slice index d).now) (fault_at {A = A} error))
fact_refused {A} begin slice index d error first =
    let (found, reads, is) = first.parses in
    let fault = ap (λ fact. c_fault (begin + index) (fact_offset fact) (fault_at {A = A} error))
    (item_seen slice index d first.fact first.stands)
    ∙ ap (c_fault (begin + index) (fact_offset first.fact)) (same_fault {A = A} _ error found is)
    in (
      index,
      refl,
      record {
        item = first.fact;
        stands = first.stands;
        before = All-from_recursion IsRustcFact (take index (views slice)) first.before;
        has = (first.refused, found, reads, fault);
      },
    )

-- Pieces of a list that is seen through references.

module _ {T : Type 0} where
  pub views-range : (slices : List (Bor T)) (begin end : ℕ)
      → views (slice_range slices begin end) ≡ slice_range (views slices) begin end
  views-range slices begin end = rw (drop-map, take-map) refl

  -- the items up to `end`: those up to `begin`, and the piece from there
  pub take-range : (items : List T) (begin end : ℕ) → begin ≤ end
      → take end items ≡ take begin items ++ slice_range items begin end
  take-range items begin end rises =
      let sum : end ≡ begin + (end - begin) = omega (arith, rises) in
      ap (λ n. take n items) sum ∙ take-add begin (end - begin) items

-- the first faulty fact of a target is that of all
pub IsAbout-piece : (facts : List (List ℕ)) (begin end : ℕ) (refusal : Refusal)
    → begin ≤ end → All IsRustcFact (take begin facts)
    → IsAbout faulty_fact (IsFirstFrom begin IsRustcFact IsFactFaultOf
    (slice_range facts begin end)) refusal
    → IsAbout faulty_fact (IsFirstFrom 0 IsRustcFact IsFactFaultOf facts) refusal
IsAbout-piece facts begin end refusal rises good (inl plain) = inl plain
IsAbout-piece facts begin end refusal rises good (inr (is, (index, number, first))) = inr (
  is,
  (
    begin + index,
    omega (arith, number),
    IsFirst-piece IsRustcFact IsFactFaultOf facts begin end index refusal.fault rises good first,
  ),
)

-- there are as many parts as ends
pub length-parts : {T : Type 0} (begin : ℕ) (ends : List ℕ) (items : List T)
    → length (parts_from begin ends items) ≡ length ends
length-parts begin [] items = refl
length-parts begin (end ∷ ends) items = ap suc (length-parts end ends items)

-- the refusal of a text that is not UTF-8, or has a fault

pub RefusesText-bytes : (text : List ℕ) (refusal : Refusal) → refusal.status ≡ not_utf8
    → refusal.fault.item ≡ 0 → HasNoUtf8 text refusal.fault → RefusesText text text_statuses refusal
RefusesText-bytes text refusal is number has =
    let first = IsFirst-seam IsUtf8 HasNoUtf8 [] text [] refusal.fault (All-nil IsUtf8) has in
    let none = All-nil IsFact in
    grind arith

pub RefusesText-failure : {A : Type 0} (text : List ℕ) (failed : Failure A) → IsUtf8 text
    → Answers {A = A} (strip text) (Err failed)
    → RefusesText text text_statuses (text_refusal {A = A} 0 (strip_offset text) failed)
RefusesText-failure text (failure.Memory refused) utf8 answers = grind arith
RefusesText-failure {A} text (failure.Parse error) utf8 (found, is, reads) =
    let first = IsFirst-seam (λ text. HasOneTree (strip text)) HasFault [] text []
    (c_fault 0 (strip_offset text) (fault_at {A = A} error))
    (All-nil (λ text. HasOneTree (strip text)))
    (utf8, (found, reads, ap (c_fault 0 (strip_offset text)) (same_fault {A = A} _ error found is)))
    in
    let none = All-nil IsFact in
    let all = All-cons IsUtf8 text [] utf8 (All-nil IsUtf8) in
    grind arith

-- the refusal of a text that was stripped
pub RefusesText-stripped : {A : Type 0} {text : List ℕ} {stripped : Stripped} (failed : Failure A)
    → IsStripped text stripped → IsUtf8 text → Answers {A = A} stripped.text.now (Err failed)
    → RefusesText text text_statuses (text_refusal {A = A} 0 stripped.offset failed)
RefusesText-stripped {A} {text} failed is utf8 answers =
    let answers = subst (λ (kept : List ℕ). Answers {A = A} kept (Err failed)) is.text_is answers in
    subst (λ (offset : ℕ). RefusesText text text_statuses (text_refusal {A = A} 0 offset failed))
    (sym is.offset_is) (RefusesText-failure text failed utf8 answers)
