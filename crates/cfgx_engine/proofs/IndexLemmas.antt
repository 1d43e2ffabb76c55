-- Sorted lists of what facts say: of one list of names, of one target and of several targets.
use Rattle.std.proofs.Common.{◌≡◌, ◌↔◌, ◌∙◌, ◌<◌, ◌+◌, ◌≤◌, ◌++◌, ◌⊎◌, ℕ, zero, suc, Bool}
use Rattle.std.proofs.Common.{true, false, List, [], ◌∷◌, Option, Some, None, ap, arith, inl, inr}
use Rattle.std.proofs.Common.{◌≢◌, get_or, if◌then◌else◌, length, map, refl, sym, take, ⊎_elim}
use Rattle.std.proofs.Common.{◌-◌, ◌||◌, option_map}
use Rattle.std.proofs.lemmas.Bool.{cases_lt}
use Rattle.std.proofs.lemmas.List.{get_or_default}
use Rattle.std.proofs.lemmas.List.{get_or-take, get_or_push, length-append, length-take-le}
use Rattle.std.proofs.lemmas.List.{take_all}
use Rattle.std.proofs.lemmas.List.{map-append, take_more}
use Rattle.std.proofs.lemmas.List.Folds.{list_any-append}
use Rattle.std.proofs.lemmas.Option.{get_or_from_slice_get, same_Some, slice_get_within}
use Rattle.std.specs.Cmp.{tied_itself}
use Rattle.std.specs.{List.slice_get}
use Rattle.std.specs.List.Sorted.{IsSorted, IsStrictlySortedBy}
use Rattle.std.specs.Ordering.{is_eq, is_lt, ordering_reverse}
use Rattle.std.specs.declared.cmp.Ordering.{Ordering}
use Rattle.std.specs.declared.cmp.Ordering.TheVariants.{Less, Equal, Greater}
use Rattle.cfgx_syntax.specs.Kleene.{EachLane, Planes, behind, lane}
use Rattle.cfgx_syntax.specs.Logic.{kleene_or}
use Rattle.cfgx_grammar.proofs.ListLemmas.{all_of_both, all_of_second, slice_get-append}
use Rattle.cfgx_grammar.proofs.ListLemmas.{slice_get-append-add, slice_get-append_seam}
use Rattle.cfgx_grammar.specs.Question.{Question}
use Rattle.cfgx_engine.specs.Facts.{FactTexts, IsAnswer, IsNamed, unnamed_answer}
use Rattle.cfgx_engine.specs.declared.resolve.facts.Otherwise.{Otherwise}
use Rattle.cfgx_engine.specs.declared.resolve.facts.Otherwise.TheVariants as otherwise
use Rattle.cfg_expr.specs.declared.expr.asked_texts.AskedTexts.{AskedTexts}
use Rattle.cfgx_engine.specs.internal.InLanes.{InLanes}
use Rattle.cfgx_engine.specs.internal.Index.{AreSorted, EndsWith, Entry, Joins}
use Rattle.cfgx_engine.specs.internal.Index.{TellsEach, TellsTarget, TellsTargets}
use Rattle.cfgx_engine.specs.internal.Index.{is_among, one_lane, paired, told}
use Rattle.cfg_expr.specs.Equality.{Code, code_cmp, code_eq, question_code, texts_code}
use Rattle.cfgx_engine.specs.internal.Named.{AreNames}
use Rattle.cfgx_engine.specs.internal.Named.{facts_in}
use Rattle.cfgx_engine.proofs.FactLemmas.{true_and_false}
use Rattle.cfgx_engine.proofs.NamedLemmas.{code_total, equal_codes, found}
use Rattle.cfgx_engine.proofs.EntryLemmas.{false_or, is_among-Contains, is_among-IsNamed}
use Rattle.cfgx_engine.proofs.EntryLemmas.{or_false, or_self, or_true, paired-append, paired-codes}
use Rattle.cfgx_engine.proofs.EntryLemmas.{same_code, told-append}

-- The entries of one list of names.

-- an entry behind the last one, which is below it
sorted_push : (before : List Code) (last name : Code) → code_cmp last name ≡ Less
    → IsStrictlySortedBy code_cmp (before ++ last ∷ [])
    → IsStrictlySortedBy code_cmp ((before ++ last ∷ []) ++ name ∷ [])
unfolding IsStrictlySortedBy
sorted_push [] last name less sorted = ((less, tt), (tt, tt))
sorted_push (one ∷ before) last name less sorted =
    let below = all_of_second (λ other. code_cmp one other ≡ Less) before (last ∷ []) sorted.0 in (
      all_of_both (λ other. code_cmp one other ≡ Less) (before ++ last ∷ []) (name ∷ []) sorted.0
          (code_total.trans one last name below.0 less, tt),
      sorted_push before last name less sorted.1,
    )

-- the predicates and answers of names, which are sorted
pub record Lists (names : List Code) (answers : ℕ → Option Bool) (parts : List AskedTexts)
    (planes : List Planes) : Type 0 where
  pub as_many : length parts ≡ length planes
  pub sorted : AreSorted (paired parts planes)
  pub tells : TellsEach names answers (paired parts planes)
  pub last : (parts ≡ [])
      ⊎ ((0 < length names) × EndsWith parts (get_or names (length names - 1) []))

pub Lists-none : (answers : ℕ → Option Bool) → Lists [] answers [] []
unfolding IsStrictlySortedBy
Lists-none answers = record {
  as_many = refl;
  sorted = tt;
  tells = λ name i below. refl;
  last = inl refl;
}

-- of sorted codes, one that differs from the one before is above it
rising : (one other : Code) → is_lt (code_cmp other one) ≡ false → (one ≡ other → ⊥)
    → code_cmp one other ≡ Less
rising one other not_less apart =
    turned (code_cmp other one) (code_cmp one other) (code_total.antisymm one other)
    (λ equal. apart (sym (equal_codes other one equal))) not_less
  where
    turned : (order other : Ordering) → other ≡ ordering_reverse order → (order ≡ Equal → ⊥)
        → is_lt order ≡ false → other ≡ Less
    turned Less other is apart not_less = absurd cc
    turned Equal other is apart not_less = absurd (apart refl)
    turned Greater other is apart not_less = is

-- predicates that end with a code end with one of this code
ends_split : (names : List AskedTexts) (name : Code) → EndsWith names name
    → (before : List AskedTexts) × (last : AskedTexts) × (names ≡ before ++ last ∷ [])
    × (texts_code last ≡ name)
ends_split names name ends =
    of_item (slice_get names (length names - 1)) refl ends
  where
    of_item : (item : Option AskedTexts) → slice_get names (length names - 1) ≡ item
        → option_map texts_code item ≡ Some name
        → (before : List AskedTexts) × (last : AskedTexts) × (names ≡ before ++ last ∷ [])
        × (texts_code last ≡ name)
    of_item None is ends = absurd cc
    of_item (Some last) is ends =
        let k = length names - 1 in
        let below = slice_get_within names k last is in (
          take k names,
          last,
          sym (take_all (k + 1) names (omega (arith, below))) ∙ take_more names k last below
              ∙ ap (λ item. take k names ++ item ∷ [])
              (get_or_from_slice_get names k last last is),
          same_Some (texts_code last) name ends,
        )

-- a list that is pushed to ends with what was pushed
ends_pushed : (names : List AskedTexts) (asked : AskedTexts)
    → EndsWith (names ++ asked ∷ []) (texts_code asked)
ends_pushed names asked =
    let long = length-append names (asked ∷ []) in
    let here : length (names ++ asked ∷ []) - 1 ≡ length names = omega (arith, long) in
    rw (here, slice_get-append_seam names asked []) refl

equal_order : (order : Ordering) → is_eq order ≡ true → order ≡ Equal
equal_order Less is = absurd cc
equal_order Equal is = refl
equal_order Greater is = absurd cc

-- the last predicate has a code exactly if it compares as equal
pub ends_when : (names : List AskedTexts) (last : AskedTexts) (name : Code) (answer : Bool)
    → Some last ≡ slice_get names (length names - 1)
    → answer ≡ is_eq (code_cmp (texts_code last) name) → (answer ≡ true) ↔ EndsWith names name
ends_when names last name answer is equal = (
  λ yes.
      let same = equal_codes (texts_code last) name (equal_order _ (sym equal ∙ yes)) in
      rw (← is) (ap Some same),
  λ ends.
      let ends' : Some (texts_code last) ≡ Some name = rw (← is) at ends in
      let same = same_Some (texts_code last) name ends' in
      equal ∙ ap (λ one. is_eq (code_cmp one name)) same ∙ ap is_eq (tied_itself code_total name),
)

among-push : (names : List Code) (asked name : Code)
    → is_among (names ++ asked ∷ []) name ≡ (is_among names name || (code_eq asked name || false))
among-push names asked name = list_any-append (λ other. code_eq other name) names (asked ∷ [])

told_pushed : (among same : Bool) (answer : Option Bool)
    → kleene_or (if among then answer else Some false)
    (kleene_or (if same then answer else Some false) (Some false))
    ≡ (if among || (same || false) then answer else Some false)
told_pushed true true answer = rw (or_false answer, or_self answer) refl
told_pushed true false answer = or_false answer
told_pushed false true answer = rw (or_false answer, false_or answer) refl
told_pushed false false answer = refl

told_again : (among same : Bool) (told answer : Option Bool) → (same ≡ true → among ≡ true)
    → told ≡ (if among then answer else Some false)
    → told ≡ (if among || (same || false) then answer else Some false)
told_again true same told answer known is = is
told_again false true told answer known is = absurd (cc (known refl))
told_again false false told answer known is = is

-- one name more of sorted ones: it is pushed, or it was the last one too
module _ (names : List Code) (asked : Code) (answers : ℕ → Option Bool) (parts : List AskedTexts)
    (planes : List Planes) (lists : Lists names answers parts planes) where
  now_last : get_or (names ++ asked ∷ []) (length (names ++ asked ∷ []) - 1) [] ≡ asked
  now_last =
      let long = length-append names (asked ∷ []) in
      get_or_push names asked [] (length (names ++ asked ∷ []) - 1) (omega (arith, long))

  now_some : 0 < length (names ++ asked ∷ [])
  now_some = let long = length-append names (asked ∷ []) in omega (arith, long)

  codes_sorted : IsStrictlySortedBy code_cmp (map texts_code parts)
  codes_sorted = rw (paired-codes parts planes lists.as_many) at lists.sorted

  longer : (part : AskedTexts) (plane : Planes)
      → length (parts ++ part ∷ []) ≡ length (planes ++ plane ∷ [])
  longer part plane =
      let long = length-append parts (part ∷ []) in
      let long' = length-append planes (plane ∷ []) in omega (arith, long, long', lists.as_many)

  pushed_sorted : (part : AskedTexts) → texts_code part ≡ asked → (EndsWith parts asked → ⊥)
      → (0 < length names → is_lt (code_cmp asked (get_or names (length names - 1) [])) ≡ false)
      → IsStrictlySortedBy code_cmp (map texts_code (parts ++ part ∷ []))
  unfolding IsStrictlySortedBy
  pushed_sorted part same apart order =
      ⊎_elim (λ none. rw none (tt, tt)) (λ (some, ends).
      let (before, last, is, name) = ends_split parts (get_or names (length names - 1) []) ends in
      let less = rising (get_or names (length names - 1) []) asked (order some)
      (λ same'. apart (rw same' at ends)) in
      rw (is, map-append, map-append, same)
      (sorted_push (map texts_code before) (texts_code last) asked (rw (← name) at less)
      (rw (is, map-append) at codes_sorted))) lists.last

  told_one : (part : AskedTexts) (plane : Planes) → texts_code part ≡ asked
      → ((i : ℕ) → lane i plane ≡ answers i) → (name : Code) (i : ℕ)
      → told (paired (part ∷ []) (plane ∷ [])) name i
      ≡ kleene_or (if code_eq asked name then answers i else Some false) (Some false)
  told_one part plane same lanes name i =
      ap (λ one. kleene_or (if code_eq one name then lane i plane else Some false) (Some false))
      same
      ∙ ap (λ x. kleene_or (if code_eq asked name then x else Some false) (Some false)) (lanes i)

  Lists-push : (part : AskedTexts) (plane : Planes) → texts_code part ≡ asked
      → ((i : ℕ) → lane i plane ≡ answers i) → (EndsWith parts asked → ⊥)
      → (0 < length names → is_lt (code_cmp asked (get_or names (length names - 1) [])) ≡ false)
      → Lists (names ++ asked ∷ []) answers (parts ++ part ∷ []) (planes ++ plane ∷ [])
  Lists-push part plane same lanes apart order = record {
    as_many = longer part plane;
    sorted = rw (paired-codes (parts ++ part ∷ []) (planes ++ plane ∷ []) (longer part plane))
        (pushed_sorted part same apart order);
    tells = λ name i below.
        rw (
          paired-append parts (part ∷ []) planes (plane ∷ []) lists.as_many,
          told-append (paired parts planes) (paired (part ∷ []) (plane ∷ [])) name i,
          among-push names asked name,
          lists.tells name i below,
        ) (ap (λ x. kleene_or (if is_among names name then answers i else Some false) x)
        (told_one part plane same lanes name i)
        ∙ told_pushed (is_among names name) (code_eq asked name) (answers i));
    last = inr (now_some, rw (now_last, ← same) (ends_pushed parts part));
  }

  known : EndsWith parts asked → is_among names asked ≡ true
  known ends =
      ⊎_elim (λ none. absurd (cc (rw none at ends))) (λ (some, ends').
      let last = get_or names (length names - 1) [] in
      let is : last ≡ asked = same_Some last asked (sym ends' ∙ ends) in
      (is_among-Contains names asked).1 (
        length names - 1,
        omega (arith, some),
        get_or_default names (length names - 1) asked [] (omega (arith, some)) ∙ is,
      )) lists.last

  Lists-again : EndsWith parts asked → Lists (names ++ asked ∷ []) answers parts planes
  Lists-again ends = record {
    as_many = lists.as_many;
    sorted = lists.sorted;
    tells = λ name i below.
        rw (among-push names asked name)
        (told_again (is_among names name) (code_eq asked name) (told (paired parts planes) name i)
        (answers i) (λ same. rw (same_code asked name same) at (known ends))
        (lists.tells name i below));
    last = inr (now_some, rw now_last ends);
  }

-- one step of a loop over all of sorted names
module _ (all : List Code) (k : ℕ) (asked : Code) (answers : ℕ → Option Bool)
    (parts : List AskedTexts)
    (planes : List Planes) (below : k < length all) (asked_is : asked ≡ get_or all k [])
    (lists : Lists (take k all) answers parts planes) where
  taken : take (k + 1) all ≡ take k all ++ asked ∷ []
  taken = rw asked_is (take_more all k [] below)

  in_order : IsSorted code_cmp all → 0 < length (take k all)
      → is_lt (code_cmp asked (get_or (take k all) (length (take k all) - 1) [])) ≡ false
  in_order sorted some =
      let long = length-take-le k all (omega (arith, below)) in
      let here : k - 1 + 1 ≡ k = omega (arith, long, some) in
      rw (long, get_or-take k all (k - 1) [] (omega (arith, long, some)), asked_is)
      (rw here at (sorted (k - 1) [] (omega arith) (omega (arith, below, long, some))))

  pub Lists-pushed : IsSorted code_cmp all → (part : AskedTexts) (plane : Planes)
      → texts_code part ≡ asked
      → ((i : ℕ) → lane i plane ≡ answers i) → (EndsWith parts asked → ⊥)
      → Lists (take (k + 1) all) answers (parts ++ part ∷ []) (planes ++ plane ∷ [])
  Lists-pushed sorted part plane same lanes apart =
      rw taken (Lists-push (take k all) asked answers parts planes lists part plane same lanes apart
      (in_order sorted))

  pub Lists-kept : EndsWith parts asked → Lists (take (k + 1) all) answers parts planes
  Lists-kept ends = rw taken (Lists-again (take k all) asked answers parts planes lists ends)

-- One lane.

pub one_lane-none : (answer : Option Bool) (old new : Planes) → EachLane old (λ i. Some false)
    → EachLane new (behind answer (λ i. lane i old)) → EachLane new (one_lane zero answer)
one_lane-none answer old new before moved zero below = moved zero below
one_lane-none answer old new before moved (suc i) below =
    moved (suc i) below ∙ before i (omega (arith, below))

pub one_lane-more : (n : ℕ) (answer : Option Bool) (old new : Planes)
    → EachLane old (one_lane n answer) → EachLane new (behind (Some false) (λ i. lane i old))
    → EachLane new (one_lane (n + 1) answer)
one_lane-more n answer old new before moved =
    let next : n + 1 ≡ suc n = omega arith in rw next (lanes-moved n answer old new before moved)
  where
    lanes-moved : (n : ℕ) (answer : Option Bool) (old new : Planes)
        → EachLane old (one_lane n answer) → EachLane new (behind (Some false) (λ i. lane i old))
        → EachLane new (one_lane (suc n) answer)
    lanes-moved n answer old new before moved zero below = moved zero below
    lanes-moved n answer old new before moved (suc i) below =
        moved (suc i) below ∙ before i (omega (arith, below))

one_lane-here : (n : ℕ) (answer : Option Bool) → one_lane n answer n ≡ answer
one_lane-here zero answer = refl
one_lane-here (suc n) answer = one_lane-here n answer

one_lane-other : (n : ℕ) (answer : Option Bool) (i : ℕ) → i ≢ n
    → one_lane n answer i ≡ Some false
one_lane-other zero answer zero apart = absurd (apart refl)
one_lane-other zero answer (suc i) apart = refl
one_lane-other (suc n) answer zero apart = refl
one_lane-other (suc n) answer (suc i) apart =
    one_lane-other n answer i (λ same. apart (ap suc same))

-- The facts of one target.

IsAnswer-named : (facts : FactTexts) (question : Question) (as_true as_unknown : Bool)
    (answer : Option Bool) → (as_true ≡ true) ↔ IsNamed facts.true_texts question
    → (as_unknown ≡ true) ↔ IsNamed facts.unknown_texts question
    → answer ≡ (if as_true then Some true else (if as_unknown then None else Some false))
    → IsAnswer facts otherwise.False question answer
IsAnswer-named facts question true as_unknown answer trues unknowns is = inl (trues.0 refl, is)
IsAnswer-named facts question false true answer trues unknowns is =
    inr (inl (λ named. true_and_false false (trues.1 named) refl, unknowns.0 refl, is))
IsAnswer-named facts question false false answer trues unknowns is =
    inr (inr (
      λ named. true_and_false false (trues.1 named) refl,
      λ named. true_and_false false (unknowns.1 named) refl,
      is,
    ))

-- the answer of what is named as true, and as unknown
named_answer : (as_true as_unknown : Bool) (answer : Option Bool)
    → answer ≡ kleene_or (if as_true then Some true else Some false)
    (if as_unknown then None else Some false)
    → answer ≡ (if as_true then Some true else (if as_unknown then None else Some false))
named_answer true true answer is = is
named_answer true false answer is = is
named_answer false true answer is = is
named_answer false false answer is = is

-- a lane in which all is false
false_answer : (as_true as_unknown : Bool)
    → kleene_or (if as_true then Some false else Some false)
    (if as_unknown then Some false else Some false) ≡ Some false
false_answer true true = refl
false_answer true false = refl
false_answer false true = refl
false_answer false false = refl

pub TellsTarget-both : (true_names unknown_names : List Code) (n : ℕ)
    (as_true as_unknown : ℕ → Option Bool) (true_ones unknown_ones both : List Entry) → n < 64
    → AreNames true_names → AreNames unknown_names
    → ((i : ℕ) → i < 64 → as_true i ≡ one_lane n (Some true) i)
    → ((i : ℕ) → i < 64 → as_unknown i ≡ one_lane n None i)
    → TellsEach true_names as_true true_ones → TellsEach unknown_names as_unknown unknown_ones
    → Joins true_ones unknown_ones both → TellsTarget (facts_in true_names unknown_names) n both
TellsTarget-both true_names unknown_names n as_true as_unknown true_ones unknown_ones both within
    named named' lanes lanes' tells tells' joins = record {
      here = λ question.
          let name = question_code question in
          let one = rw (lanes n within ∙ one_lane-here n (Some true)) at (tells name n within) in
          let two = rw (lanes' n within ∙ one_lane-here n None) at (tells' name n within) in
          IsAnswer-named (facts_in true_names unknown_names) question (is_among true_names name)
          (is_among unknown_names name) (told both name n)
          (is_among-IsNamed true_names question named)
          (is_among-IsNamed unknown_names question named')
          (named_answer (is_among true_names name) (is_among unknown_names name)
          (told both name n) (rw (one, two) at (joins name n within)));
      others = λ question i below apart.
          let name = question_code question in
          let one = rw (lanes i below ∙ one_lane-other n (Some true) i apart)
          at (tells name i below) in
          let two = rw (lanes' i below ∙ one_lane-other n None i apart) at (tells' name i below) in
          rw (one, two) at (joins name i below)
          ∙ false_answer (is_among true_names name) (is_among unknown_names name);
    }

-- nothing is joined
pub Joins-none : (entries : List Entry) → Joins entries [] entries
Joins-none entries name i below = sym (or_false (told entries name i))

-- The facts of several targets.

pub TellsTargets-none : (first : ℕ) → TellsTargets [] first []
TellsTargets-none first = record {
  answers = λ i facts is. absurd cc;
  others = λ i outside below question. refl;
}

pub TellsTargets-one : (facts : FactTexts) (first : ℕ) (entries : List Entry)
    → TellsTarget facts first entries → TellsTargets (facts ∷ []) first entries
TellsTargets-one facts first entries tells = record {
  answers = λ i target is question.
      let inside = slice_get_within (facts ∷ []) i target is in
      let here : i ≡ 0 = omega (arith, inside) in
      let there : first + i ≡ first = omega (arith, here) in
      let same : facts ≡ target = same_Some facts target (rw here at is) in
      rw (there, ← same) (tells.here question);
  others = λ i outside below question.
      tells.others question i below (λ same. absurd (⊎_elim
      (λ before. let wrong : ⊥ = omega (arith, before, same) in wrong)
      (λ past. let wrong : ⊥ = omega (arith, past, same) in wrong) outside));
}

-- a list of one target
pub only_target : (targets : List FactTexts) (facts : FactTexts) → length targets ≡ 1
    → facts ≡ get_or targets 0 facts → targets ≡ facts ∷ []
only_target [] facts one is = absurd (omega arith)
only_target (target ∷ []) facts one is = ap (λ facts. facts ∷ []) (sym is)
only_target (target ∷ other ∷ targets) facts one is = absurd (omega arith)

pub TellsTargets-both : (front back : List FactTexts) (first second : ℕ)
    (one other both : List Entry) → second ≡ first + length front
    → second + length back ≤ 64 → TellsTargets front first one → TellsTargets back second other
    → Joins one other both → TellsTargets (front ++ back) first both
TellsTargets-both front back first second one other both at few tells tells' joins = record {
  answers = λ i target is question.
      let name = question_code question in
      let long = length-append front back in
      let inside = slice_get_within (front ++ back) i target is in
      let below : first + i < 64 = omega (arith, few, long, inside, at) in ⊎_elim
      (λ before.
      rw (
        joins name (first + i) below,
        tells'.others (first + i) (inl (omega (arith, at, before))) below question,
        or_false (told one name (first + i)),
      ) (tells.answers i target (sym (slice_get-append front back i before) ∙ is) question))
      (λ past.
      let there : first + i ≡ second + (i - length front) = omega (arith, at, past) in
      rw (
        joins name (first + i) below,
        tells.others (first + i) (inr (omega (arith, past))) below question,
        false_or (told other name (first + i)),
        there,
      ) (tells'.answers (i - length front) target (sym (slice_get-append-add front back
      (i - length front) i (omega (arith, past))) ∙ is) question)) (cases_lt i (length front));
  others = λ i outside below question.
      let name = question_code question in
      let long = length-append front back in
      rw (
        joins name i below,
        tells.others i (⊎_elim (λ before. inl before)
            (λ past. inr (omega (arith, past, long))) outside) below question,
        tells'.others i (⊎_elim (λ before. inl (omega (arith, before, at)))
            (λ past. inr (omega (arith, past, long, at))) outside) below question,
      ) refl;
}

-- What entries answer.

unknown_or : (given : Otherwise) (question : Question)
    → kleene_or None (unnamed_answer given question) ≡ None
unknown_or otherwise.False question = refl
unknown_or otherwise.Unknown (Question.target question) = refl
unknown_or otherwise.Unknown _ = refl

IsAnswer-otherwise : (facts : FactTexts) (given : Otherwise) (question : Question)
    (answer : Option Bool) → IsAnswer facts otherwise.False question answer
    → IsAnswer facts given question (kleene_or answer (unnamed_answer given question))
IsAnswer-otherwise facts given question answer = ⊎_elim
    (λ (named, is). inl (named, rw is (or_true (unnamed_answer given question))))
    (⊎_elim (λ (not, named, is). inr (inl (not, named, rw is (unknown_or given question))))
    (λ (not, unknown, is).
    inr (inr (not, unknown, rw is (false_or (unnamed_answer given question))))))

-- the lanes of what is told, joined to the answer to a predicate that no fact names
pub InLanes-told : (targets : List FactTexts) (entries : List Entry) (given : Otherwise)
    (question : Question) (name : Code) (unnamed : Option Bool) (found others joined : Planes)
    → length targets ≤ 64 → TellsTargets targets 0 entries → name ≡ question_code question
    → unnamed ≡ unnamed_answer given question → EachLane found (told entries name)
    → EachLane others (λ i. unnamed)
    → EachLane joined (λ i. kleene_or (lane i found) (lane i others))
    → InLanes (λ facts. IsAnswer facts given) targets question joined
InLanes-told targets entries given question name unnamed found others joined few tells same
    is_unnamed lanes_found lanes_others lanes i target is =
    let below : i < 64 = omega (arith, slice_get_within targets i target is) in
    let here : 0 + i ≡ i = omega arith in
    rw (lanes i below, lanes_found i below, lanes_others i below, is_unnamed, same)
    (IsAnswer-otherwise target given question (told entries (question_code question) i)
    (rw here at (tells.answers i target is question)))
