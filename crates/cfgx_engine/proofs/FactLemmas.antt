-- Facts that are read one after another, and what they answer.
use Rattle.std.proofs.Common.{◌≡◌, ◌≢◌, ◌↔◌, ◌⊎◌, inl, inr, ⊎_elim, ℕ, Bool, true, false, List}
use Rattle.std.proofs.Common.{[], ◌∷◌, ◌++◌}
use Rattle.std.proofs.Common.{Option, Some, None, Ok, Err, codes, map, refl, ap, ◌<◌, ◌+◌, zero}
use Rattle.std.proofs.Common.{suc, Bor, bytes_eq, length, get_or, take, append-nil, arith}
use Rattle.std.{proofs.lemmas.Bool.false_from_ne_true, specs.List.AllByRecursion}
use Rattle.std.specs.List.{filter_map}
use Rattle.std.proofs.{lemmas.List.map-append, lemmas.List.take_more, lemmas.List.take-map}
use Rattle.std.proofs.lemmas.Option.{IfSome_then, slice_get-get_or, slice_get-map}
use Rattle.std.proofs.lemmas.List.Elements.{All-from_recursion, All-push, filter_map-append}
use Rattle.std.proofs.lemmas.List.Elements.{Contains-append_cases, Contains-append_left}
use Rattle.std.proofs.lemmas.List.Elements.{Contains-append_right, recursion_from_All}
use Rattle.std.proofs.lemmas.Slice.Eq.{bytes_eq-Decides}
use Rattle.cfgx_syntax.specs.{Stripping.strip, Error.Fault, Error.TextFault}
use Rattle.cfgx_syntax.specs.Error.{failure_of}
use Rattle.cfgx_syntax.specs.declared.error.Failure.{Failure}
use Rattle.cfgx_syntax.specs.declared.error.Failure.TheVariants as failure
use Rattle.cfgx_grammar.specs.{Question.Question, Tree.Tree, Answer.HasOneTree, Answer.ReadsAs}
use Rattle.cfgx_grammar.proofs.Answering.{not_both, only_tree}
use Rattle.cfgx_engine.specs.Facts.{AreFacts, FactTexts, IsAnswer, IsFirstFaulty, IsFlag, IsNamed}
use Rattle.cfgx_engine.specs.Facts.{NameAlike, Names, ReadsFacts, fact_text, texts_of}
use Rattle.cfgx_engine.specs.Facts.{true_text, unknown_text}
use Rattle.cfgx_engine.specs.declared.resolve.facts.Otherwise.{Otherwise}
use Rattle.cfgx_engine.specs.declared.resolve.facts.UnaskableFacts.{UnaskableFacts}
use Rattle.cfgx_engine.specs.declared.resolve.facts.UnaskableFacts.TheVariants as unaskable_facts
use Rattle.cfgx_engine.specs.internal.ReadsFacts.{AddsFact, AddsText, IsText, accepts, error_at}
use Rattle.cfgx_engine.specs.internal.ReadsFacts.{joined}
use Rattle.cfg_expr.specs.Equality.{Code, question_code}
use Rattle.cfgx_engine.specs.internal.Named.{AreNames, IsName, facts_in}
use Rattle.cfgx_engine.specs.internal.Named.{spelled}
use Rattle.cfgx_engine.proofs.NamedLemmas.{AreNames-append, Contains-codes, IsNamed-spelled}
use Rattle.cfgx_engine.proofs.NamedLemmas.{only_item}
use Rattle.std.specs.List.{Contains}
use Rattle.std.specs.List.Sorted.{IsPermutation}
use Rattle.std.proofs.lemmas.List.Sorted.{All-permutation, Contains-permutation, IsPermutation-sym}
use Rattle.cfgx_engine.specs.internal.{ReadsFacts.NamesNothing, ReadsFacts.passes_over, Shows.Fails}
use Rattle.cfgx_engine.specs.{Request.texts, Readings.GivesAll, Readings.ParsesAs}
use Rattle.cfgx_engine.proofs.ReadingLemmas.{first_fails, later_fails}

-- a fact without a `?` in front names true predicates
pub unknown_text-unmarked : (fact : List ℕ) → ((rest : List ℕ) → fact ≢ 63 ∷ rest)
    → unknown_text fact ≡ None
unknown_text-unmarked [] lacks = refl
unknown_text-unmarked (byte ∷ rest) lacks =
    rw (false_from_ne_true (bytes_eq (byte ∷ []) (codes "?")) (λ is.
    lacks rest (ap (λ xs. xs ++ rest) ((bytes_eq-Decides (byte ∷ []) (codes "?")).0 is))))

-- both lists together name what one of them names
IsNamed-append : (xs ys : List (List ℕ)) (question : Question)
    → IsNamed (xs ++ ys) question ↔ (IsNamed xs question ⊎ IsNamed ys question)
IsNamed-append xs ys question = (
  λ (k, text, below, is, names). ⊎_elim
      (λ left. inl (left.0, text, left.1, left.2, names))
      (λ right. inr (right.0, text, right.1, right.2, names))
      (Contains-append_cases xs ys text (k, below, is)),
  λ named. ⊎_elim
      (λ (k, text, below, is, names).
      let left = Contains-append_left xs ys text (k, below, is) in
      (left.0, text, left.1, left.2, names))
      (λ (k, text, below, is, names).
      let right = Contains-append_right xs ys text (k, below, is) in
      (right.0, text, right.1, right.2, names)) named,
)

-- lists that name what others name, each with the same one behind it
IsNamed-alike : (xs us ys vs : List (List ℕ)) (question : Question)
    → IsNamed xs question ↔ IsNamed us question → IsNamed ys question ↔ IsNamed (xs ++ vs) question
    → IsNamed ys question ↔ IsNamed (us ++ vs) question
IsNamed-alike xs us ys vs question alike more =
    let here = IsNamed-append xs vs question in
    let there = IsNamed-append us vs question in (
      λ named. there.1 (⊎_elim (λ left. inl (alike.0 left)) inr (here.0 (more.0 named))),
      λ named. more.1 (here.1 (⊎_elim (λ left. inl (alike.1 left)) inr (there.0 named))),
    )

-- the texts of one fact more, of either kind
texts-append : (of : List ℕ → Option (List ℕ)) (facts : List (List ℕ)) (fact : List ℕ)
    → map strip (filter_map of (facts ++ fact ∷ []))
    ≡ map strip (filter_map of facts) ++ map strip (filter_map of (fact ∷ []))
texts-append of facts fact = rw (filter_map-append, map-append) refl

texts_of-more : (facts : List (List ℕ)) (fact : List ℕ) (old new : FactTexts)
    → NameAlike old (texts_of facts) → NameAlike new (joined old (texts_of (fact ∷ [])))
    → NameAlike new (texts_of (facts ++ fact ∷ []))
texts_of-more facts fact old new alike more = record {
  true_alike = λ question. rw (texts-append true_text facts fact) (IsNamed-alike _ _ _ _ question
      (alike.true_alike question) (more.true_alike question));
  unknown_alike = λ question. rw (texts-append unknown_text facts fact) (IsNamed-alike _ _ _ _
      question (alike.unknown_alike question) (more.unknown_alike question));
}

-- The codes of what a fact names, behind those of other facts.

-- the same text behind texts names what it names
IsNamed-one : (text : List ℕ) (question : Question)
    → IsNamed (text ∷ []) question ↔ Names text question
IsNamed-one text question = (
  λ (k, other, below, is, names).
      let among : Contains (text ∷ []) other = (k, below, is) in
      rw (only_item text other among) names,
  λ names. (zero, text, omega arith, refl, names),
)

IsNamed-same : (texts : List (List ℕ)) (question : Question)
    → IsNamed texts question ↔ IsNamed (texts ++ []) question
IsNamed-same texts question = rw append-nil (λ named. named, λ named. named)

-- the codes of a text tell what it names
Names-codes : (unaskable : UnaskableFacts) (text : List ℕ) (added : List Code)
    → IsText unaskable text added → (question : Question)
    → Names text question ↔ Contains added (question_code question)
Names-codes unaskable text added (inl (questions, asks, is)) question =
    let codes = Contains-codes questions question in
    rw is (
      λ (tree, has, among). codes.1 (rw (only_tree asks.asked.0 tree has, ← asks.asked.1) at among),
      λ among. (asks.asked.0.tree, asks.asked.0.reads.has, rw (← asks.asked.1) (codes.0 among)),
    )
Names-codes unaskable text added (inr (passes, nothing, is)) question = (
  λ names. absurd (nothing question names),
  λ (k, below, _). absurd (grind (arith, is)),
)

-- a text was added to texts, or passed over
pub record Pushes (unaskable : UnaskableFacts) (text : List ℕ) (old new : List (List ℕ))
    : Type 0 where
  pub taken : HasOneTree (strip text) ⊎ passes_over unaskable (strip text)
  pub alike : (question : Question)
      → IsNamed new question ↔ IsNamed (old ++ strip text ∷ []) question

module _ (unaskable : UnaskableFacts) (text : List ℕ) (old new : List Code) (named : AreNames old)
    (adds : AddsText unaskable text old new) where
  pub AreNames-added : AreNames new
  AreNames-added = rw adds.2 (⊎_elim
      (λ (questions, asks, is). rw is (AreNames-append old questions named asks.well_formed))
      (λ (passes, nothing, is). rw (is, append-nil) named) adds.1)

  taken_text : IsText unaskable (strip text) adds.0
      → HasOneTree (strip text) ⊎ passes_over unaskable (strip text)
  taken_text (inl (questions, asks, is)) = inl asks.asked.0
  taken_text (inr (passes, nothing, is)) = inr passes

  pub Pushes-added : Pushes unaskable text (spelled old) (spelled new)
  Pushes-added = record {
    taken = taken_text adds.1;
    alike = λ question.
        let before = IsNamed-spelled old question named in
        let after = IsNamed-spelled new question AreNames-added in
        let both = IsNamed-append (spelled old) (strip text ∷ []) question in
        let one = IsNamed-one (strip text) question in
        let codes = Names-codes unaskable (strip text) adds.0 adds.1 question in (
          λ names. both.1 (⊎_elim (λ left. inl (before.1 left))
              (λ right. inr (one.1 (codes.1 right)))
              (Contains-append_cases old adds.0 _ (rw adds.2 at (after.0 names)))),
          λ names. after.1 (rw adds.2 (⊎_elim
              (λ left. Contains-append_left old adds.0 _ (before.0 left))
              (λ right. Contains-append_right old adds.0 _ (codes.0 (one.0 right)))
              (both.0 names))),
        );
  }

-- a fact is accepted if its text has one tree or is passed over
accepts-text : (unaskable : UnaskableFacts) (fact text : List ℕ) → fact_text fact ≡ text
    → HasOneTree (strip text) ⊎ passes_over unaskable (strip text) → accepts unaskable fact
accepts-text unaskable_facts.Refused fact text is one =
    ⊎_elim (λ tree. rw is tree) (λ none. absurd none) one
accepts-text unaskable_facts.PassedOver fact text is one = rw is one

pub AddsFact-unknown : (unaskable : UnaskableFacts) (fact text : List ℕ) (old : FactTexts)
    (new : List (List ℕ)) → unknown_text fact ≡ Some text
    → Pushes unaskable text old.unknown_texts new
    → AddsFact (accepts unaskable) fact old
    (record { true_texts = old.true_texts; unknown_texts = new })
AddsFact-unknown unaskable fact text old new marked pushes = record {
  accepted = accepts-text unaskable fact text (rw marked refl) pushes.taken;
  alike = record {
    true_alike = λ question. rw marked (IsNamed-same old.true_texts question);
    unknown_alike = λ question.
        rw marked (pushes.alike question);
  };
}

pub AddsFact-true : (unaskable : UnaskableFacts) (fact : List ℕ) (old : FactTexts)
    (new : List (List ℕ)) → unknown_text fact ≡ None → Pushes unaskable fact old.true_texts new
    → AddsFact (accepts unaskable) fact old
    (record { true_texts = new; unknown_texts = old.unknown_texts })
AddsFact-true unaskable fact old new unmarked pushes = record {
  accepted = accepts-text unaskable fact fact (rw unmarked refl) pushes.taken;
  alike = record {
    true_alike = λ question.
        rw unmarked (pushes.alike question);
    unknown_alike = λ question. rw unmarked (IsNamed-same old.unknown_texts question);
  };
}

-- a text with a fault asks nothing
pub NamesNothing-fault : (text : List ℕ) (fault : Fault) → ReadsAs text (Err fault)
    → NamesNothing text
NamesNothing-fault text fault reads question names =
    absurd (cc (reads.only (Ok names.0) names.1))

-- what is true is not false
pub true_and_false : (b : Bool) → b ≡ true → b ≡ false → ⊥
true_and_false b is not = absurd cc

-- a fact is not accepted if its text has a fault and is not passed over
refuses : (unaskable : UnaskableFacts) (fact : List ℕ) (fault : TextFault)
    → ParsesAs (fact_text fact) (Err fault) → ¬ passes_over unaskable (strip (fact_text fact))
    → ¬ accepts unaskable fact
refuses unaskable_facts.Refused fact fault parses fails = λ one. not_both parses.1 one
refuses unaskable_facts.PassedOver fact fault parses fails = λ one.
    ⊎_elim (λ tree. not_both parses.1 tree) fails one

pub Fails-refused : {A : Type 0} (unaskable : UnaskableFacts) (fact text : List ℕ)
    (failed : Failure A) → fact_text fact ≡ text
    → Fails {A = A} (λ fault. ParsesAs text (Err fault) × ¬ passes_over unaskable (strip text))
    failed
    → Fails {A = A} (λ fault. ParsesAs (fact_text fact) (Err fault) × ¬ accepts unaskable fact)
    failed
Fails-refused {A} unaskable fact text failed is fails =
    IfSome_then (failure_of {A = A} failed) fails (λ fault both. let parses = rw (← is) at both.0 in
    (parses, refuses unaskable fact fault parses (rw (← is) at both.1)))

-- sorted codes name what they did
pub IsNamed-sorted : (old new : List Code) → AreNames old → IsPermutation old new
    → (question : Question) → IsNamed (spelled new) question ↔ IsNamed (spelled old) question
IsNamed-sorted old new named moves question =
    let before = IsNamed-spelled old question named in
    let after = IsNamed-spelled new question (All-permutation IsName old new moves named) in (
      λ is. before.1 (Contains-permutation new old _ (IsPermutation-sym old new moves)
          (after.0 is)),
      λ is. after.1 (Contains-permutation old new _ moves (before.0 is)),
    )

pub AreFacts-sorted : (Accepts : List ℕ → Type 0) (facts : List (List ℕ))
    (true_names unknown_names new_true new_unknown : List Code) → AreNames true_names
    → AreNames unknown_names
    → IsPermutation true_names new_true → IsPermutation unknown_names new_unknown
    → AreFacts Accepts facts (facts_in true_names unknown_names)
    → AreFacts Accepts facts (facts_in new_true new_unknown)
AreFacts-sorted Accepts facts true_names unknown_names new_true new_unknown named named' moves
    moves' are = record {
      each = are.each;
      alike = record {
        true_alike = λ question.
            let same = IsNamed-sorted true_names new_true named moves question in
            let alike = are.alike.true_alike question in
            (λ is. alike.0 (same.0 is), λ is. same.1 (alike.1 is));
        unknown_alike = λ question.
            let same = IsNamed-sorted unknown_names new_unknown named' moves' question in
            let alike = are.alike.unknown_alike question in
            (λ is. alike.0 (same.0 is), λ is. same.1 (alike.1 is));
      };
    }

-- what texts answer, others that name the same answer too
pub IsAnswer-alike : (one other : FactTexts) (otherwise : Otherwise) (question : Question)
    (answer : Option Bool) → NameAlike one other → IsAnswer one otherwise question answer
    → IsAnswer other otherwise question answer
IsAnswer-alike one other otherwise question answer alike answers =
    let true_alike = alike.true_alike question in
    let unknown_alike = alike.unknown_alike question in grind arith

module _ (Accepts : List ℕ → Type 0) (facts : List (Bor (List ℕ))) (i : ℕ) (d : Bor (List ℕ))
    (below : i < length facts) where
  -- with one fact more
  pub AreFacts-more : (old new : FactTexts) → AreFacts Accepts (texts (take i facts)) old
      → AddsFact Accepts (get_or facts i d).now old new
      → AreFacts Accepts (texts (take (i + 1) facts)) new
  AreFacts-more old new are adds =
      let front = texts (take i facts) in
      let fact = (get_or facts i d).now in
      rw (take_more facts i d below, map-append) (record {
        each = recursion_from_All Accepts _
            (All-push Accepts front fact (All-from_recursion Accepts front are.each) adds.accepted);
        alike = texts_of-more front fact old new are.alike adds.alike;
      })

  -- a fact is the first faulty one if each before it is accepted
  pub IsFirstFaulty-here : (fault : TextFault) → AllByRecursion Accepts (texts (take i facts))
      → ¬ Accepts (get_or facts i d).now → ParsesAs (fact_text (get_or facts i d).now) (Err fault)
      → IsFirstFaulty Accepts (texts facts) i fault
  IsFirstFaulty-here fault before refused parses = record {
    fact = (get_or facts i d).now;
    stands = rw (slice_get-map, slice_get-get_or facts i d below) refl;
    before = rw take-map before;
    refused = refused;
    parses = parses;
  }

  -- the error of a failure at a fact
  pub ReadsFacts-fails : {A : Type 0} (failed : Failure A)
      → AllByRecursion Accepts (texts (take i facts))
      → Fails {A = A} (λ fault. ParsesAs (fact_text (get_or facts i d).now) (Err fault)
      × ¬ Accepts (get_or facts i d).now) failed
      → ReadsFacts {A = A} Accepts (texts facts) (Err (error_at {A = A} i failed))
  ReadsFacts-fails (failure.Parse error) before fails =
      IsFirstFaulty-here _ before fails.1 fails.0
  ReadsFacts-fails (failure.Memory error) before fails = tt

-- no facts
pub AreFacts-none : (Accepts : List ℕ → Type 0) → AreFacts Accepts [] (facts_in [] [])
AreFacts-none Accepts = record {
  each = tt;
  alike = record {
    true_alike = λ question. (λ named. named, λ named. named);
    unknown_alike = λ question. (λ named. named, λ named. named);
  };
}

-- each flag is parsed as the one tree of its text
pub trees_of : (flags : List (List ℕ)) → AllByRecursion IsFlag flags
    → (trees : List (Tree Question)) × GivesAll ParsesAs (map fact_text flags) (Ok trees)
trees_of [] each = ([], tt)
trees_of (flag ∷ flags) each =
    let others = trees_of flags each.1 in
    (each.0.tree ∷ others.0, (each.0.reads, others.1))

-- the first faulty flag gives the fault of them all
pub GivesAll-faulty : (flags : List (List ℕ)) (i : ℕ) (fault : TextFault)
    → IsFirstFaulty IsFlag flags i fault → GivesAll ParsesAs (map fact_text flags) (Err fault)
GivesAll-faulty [] i fault first = absurd (grind (arith, first.stands))
GivesAll-faulty (flag ∷ flags) zero fault first =
    let is : flag ≡ first.fact = grind (arith, first.stands) in
    first_fails ParsesAs _ _ fault (rw is first.parses)
GivesAll-faulty (flag ∷ flags) (suc i) fault first =
    let rest = GivesAll-faulty flags i fault (record {
      fact = first.fact;
      stands = first.stands;
      before = first.before.1;
      refused = first.refused;
      parses = first.parses;
    }) in later_fails ParsesAs _ first.before.0.tree _ fault first.before.0.reads rest
