-- Codes of predicates, and how one is found among those that are sorted.
use Rattle.std.proofs.Common.{◌≡◌, ◌≤◌, ◌<◌, ◌+◌, ◌↔◌, ◌∙◌, refl, sym, ap, ℕ, zero, suc, List}
use Rattle.std.proofs.Common.{[], ◌∷◌, ◌++◌, arith, append_assoc, drop, length, map}
use Rattle.std.proofs.Common.{Ok, Result, Err, IsTrue, get_or, None, Option, Some}
use Rattle.std.proofs.lemmas.List.{drop-append-le, get_or-map, get_or_default, length-drop}
use Rattle.std.proofs.lemmas.List.{length-map}
use Rattle.std.proofs.lemmas.List.{length-append, map-append, take-append-le}
use Rattle.std.proofs.lemmas.List.Sorted.{searchable_from_sorted}
use Rattle.std.proofs.Math.Seq.{drop-append_seam, take-append_seam}
use Rattle.std.specs.Cmp.{IsTotalOrder, tied_itself}
use Rattle.std.specs.Cmp.Lexicographic.{bytes_decides, lists_ties, lists_total, nat_list_cmp_total}
use Rattle.std.specs.Cmp.Lexicographic.{pointwise_decides, slice_cmp, texts_ties}
use Rattle.std.specs.{List.All, List.AllByRecursion, List.Contains, Result.is_ok}
use Rattle.std.specs.Ordering.{is_eq, is_lt, nat_cmp}
use Rattle.std.proofs.lemmas.List.Elements.{All-append, All-from_recursion, All-map, All-push}
use Rattle.std.proofs.lemmas.List.Elements.{All-weaker, recursion_from_All}
use Rattle.std.proofs.Math.Seq.{take-length}
use Rattle.std.specs.List.Sorted.{IsBinarySearchResult, IsSorted, IsSortedBy, IsSearchInRange}
use Rattle.std.specs.declared.cmp.Ordering.TheVariants.{Equal}
use Rattle.cfgx_grammar.specs.Question.{Question}
use Rattle.cfgx_parser.proofs.AskedNumbers.{numbered-same}
use Rattle.cfgx_parser.specs.Asked.{asked_number, asked_numbered, key_of, kind_number}
use Rattle.cfgx_parser.specs.Asked.{question_with, value_of, without_texts}
use Rattle.cfg_expr.specs.Equality.{Code, code_cmp, code_with, number_code, question_code}
use Rattle.cfgx_engine.specs.internal.Named.{AreNames, IsInside, IsName, code_at, number_in}
use Rattle.cfgx_engine.specs.internal.Named.{question_in, spelled}
use Rattle.cfgx_engine.specs.Facts.{IsNamed}
use Rattle.cfgx_grammar.specs.{Spelling.spelling, Tree.Tree, WellFormed.IsWellFormed}
use Rattle.cfgx_grammar.proofs.alone.{spelling_alone}
use Rattle.cfgx_engine.specs.declared.resolve.named.NamedPredicate.{NamedPredicate}

-- The code of a question tells the question.

-- the parts of a question make it
with_parts : (question : Question)
    → question_with (key_of question) (value_of question) (without_texts question) ≡ question
with_parts question = grind arith

number_in-code : (number : Option ℕ) → number_in (number_code number) ≡ number
number_in-code None = refl
number_in-code (Some number) = refl

pub question_in-code : (question : Question) → question_in (question_code question) ≡ question
question_in-code question =
    let asked = without_texts question in
    ap (λ (number : Option ℕ). question_with (key_of question) (value_of question)
    (asked_numbered (kind_number asked) number)) (number_in-code (asked_number asked))
    ∙ ap (question_with (key_of question) (value_of question)) (numbered-same asked)
    ∙ with_parts question

pub one_question : (one other : Question) → question_code one ≡ question_code other → one ≡ other
one_question one other same =
    sym (question_in-code one) ∙ ap question_in same ∙ question_in-code other

-- The order of codes.

pub code_total : IsTotalOrder code_cmp
code_total = lists_total nat_list_cmp_total

pub equal_codes : (one other : Code) → code_cmp one other ≡ Equal → one ≡ other
equal_codes one other equal =
    (pointwise_decides bytes_decides one other).0
    (lists_ties (slice_cmp nat_cmp) texts_ties one other ∙ ap is_eq equal)

-- The codes of what stands in a buffer.

pub code_at-append : (buffer more : List ℕ) (named : NamedPredicate)
    → IsInside (length buffer) named
    → code_at (buffer ++ more) named ≡ code_at buffer named
code_at-append buffer more named inside =
    let rest = drop named.start buffer in
    let long = length-drop named.start buffer in
    let long' = length-drop named.key_len rest in
    rw (
      drop-append-le named.start buffer more (omega arith),
      take-append-le named.key_len rest more (omega arith),
      drop-append-le named.key_len rest more (omega arith),
      take-append-le named.value_len (drop named.key_len rest) more (omega arith),
    ) refl

codes_at-append : (buffer more : List ℕ) (all : List NamedPredicate)
    → AllByRecursion (IsInside (length buffer)) all
    → map (code_at (buffer ++ more)) all ≡ map (code_at buffer) all
codes_at-append buffer more [] inside = refl
codes_at-append buffer more (named ∷ all) inside =
    rw (code_at-append buffer more named inside.0, codes_at-append buffer more all inside.1) refl

-- a name more, whose texts are added to the buffer
module _ (buffer key value : List ℕ) (all : List NamedPredicate) (named : NamedPredicate)
    (start : named.start ≡ length buffer) (key_len : named.key_len ≡ length key)
    (value_len : named.value_len ≡ length value)
    (inside : All (IsInside (length buffer)) all) where
  pub codes_at-push : map (code_at ((buffer ++ key) ++ value)) (all ++ named ∷ [])
      ≡ map (code_at buffer) all ++ code_with named.kind named.number key value ∷ []
  codes_at-push =
      let same = codes_at-append buffer (key ++ value) all (recursion_from_All _ all inside) in
      rw (
        append_assoc,
        map-append,
        same,
        start,
        drop-append_seam buffer (key ++ value),
        key_len,
        take-append_seam key value,
        drop-append_seam key value,
        value_len,
        take-length value,
      ) refl

  pub inside-push : All (IsInside (length ((buffer ++ key) ++ value))) (all ++ named ∷ [])
  inside-push =
      let long = length-append (buffer ++ key) value in
      let long' = length-append buffer key in
      All-push (IsInside (length ((buffer ++ key) ++ value))) all named
      (All-weaker (IsInside (length buffer)) (IsInside (length ((buffer ++ key) ++ value)))
      (λ other fits. omega (arith, fits)) all inside) (omega arith)

-- A name is found among those that are sorted.

module _ {X : Type 0} (f : X → Code) where
  pub sorted_codes : (all : List X)
      → IsSortedBy (λ one other. is_lt (code_cmp (f one) (f other))) all
      → IsSorted code_cmp (map f all)
  sorted_codes [] sorted k d above below = absurd (omega arith)
  sorted_codes (x ∷ xs) sorted k d above below =
      let below' : k + 1 < length (x ∷ xs) = rw (← length-map (x ∷ xs) f) below in
      rw (get_or-map f (x ∷ xs) (k + 1) x d below', get_or-map f (x ∷ xs) k x d (omega arith))
      (sorted k x above below')

  item : (all : List X) (i : ℕ) → i < length all → X
  item [] i below = absurd (omega arith)
  item (x ∷ xs) i below = x

  sorted_items : (all : List X) → IsSorted code_cmp (map f all)
      → IsSortedBy (λ one other. is_lt (code_cmp (f one) (f other))) all
  sorted_items all sorted k d above below =
      rw (get_or-map f all (k + 1) d (f d) below, get_or-map f all k d (f d) (omega arith))
      at (sorted k (f d) above (rw length-map below))

  module _ (all : List X) (asked : Code) where
    pub found : (r : Result ℕ ℕ) → IsSearchInRange r (length all)
        → IsBinarySearchResult (λ x. code_cmp (f x) asked) all r
        → IsSorted code_cmp (map f all) → IsTrue (is_ok r) ↔ Contains (map f all) asked
    found (Ok i) in_range equal sorted =
        let x = item all i in_range in
        let is = equal_codes (f (get_or all i x)) asked (equal x) in (
          λ yes. (i, rw length-map in_range, get_or-map f all i x asked in_range ∙ is),
          λ contains. refl,
        )
    found (Err i) in_range parted sorted = (
      λ yes. absurd cc,
      λ (k, below, is).
          let below' : k < length all = rw (← length-map all f) below in
          let x = item all k below' in
          let parts = parted (searchable_from_sorted code_total f all asked
          (sorted_items all sorted)) in
          let is' : f (get_or all k x) ≡ asked = sym (get_or-map f all k x asked below') ∙ is in
          let equal = ap (λ name. code_cmp name asked) is' ∙ tied_itself code_total asked in
          let before : k < i → ⊥ = λ lt. absurd (cc (parts.0 k x (omega arith) lt, equal)) in
          let after : i ≤ k → ⊥ = λ le. absurd (cc (parts.1 k x le below', equal)) in
          absurd (after (omega (arith, before))),
    )

-- Codes of questions that can stand in a text.

pub Contains-codes : (questions : List Question) (question : Question)
    → Contains (map question_code questions) (question_code question) ↔ Contains questions question
Contains-codes questions question = (
  λ (k, below, is).
      let below' : k < length questions = rw (← length-map questions question_code) below in
      let here = sym (get_or-map question_code questions k question (question_code question)
      below') ∙ is in
      (k, below', one_question (get_or questions k question) question here),
  λ (k, below, is). (
    k,
    rw length-map below,
    get_or-map question_code questions k question (question_code question) below
        ∙ ap question_code is,
  ),
)

pub AreNames-append : (names : List Code) (questions : List Question) → AreNames names
    → AllByRecursion IsWellFormed questions → AreNames (names ++ map question_code questions)
AreNames-append names questions named good =
    All-append IsName names (map question_code questions) named
    (All-map IsName question_code questions
    (All-weaker IsWellFormed (λ question. IsName (question_code question))
    (λ question well_formed. (question, well_formed, refl)) questions
    (All-from_recursion IsWellFormed questions good)))

-- the only item of a list
pub only_item : {X : Type 0} (x y : X) → Contains (x ∷ []) y → x ≡ y
only_item x y (zero, below, is) = is
only_item x y (suc k, below, is) = absurd (omega arith)

-- how the question of a code is spelled
abbrev spelled_name : Code → List ℕ
spelled_name name = spelling (question_in name)

-- the texts that spell the questions of codes name these questions
pub IsNamed-spelled : (names : List Code) (question : Question) → AreNames names
    → IsNamed (spelled names) question ↔ Contains names (question_code question)
IsNamed-spelled names question named = (
  λ (k, text, below, is, (tree, has, among)).
      let below' : k < length names = rw (← length-map names spelled_name) below in
      let (other, good, code) = named k [] below' in
      let spells : text ≡ spelling other = sym is ∙ get_or-map spelled_name names k [] text below'
      ∙ ap spelled_name code ∙ ap spelling (question_in-code other) in
      let alone = spelling_alone other good in
      let same = alone.reads.only (Ok tree) (rw (← spells) has) in
      let leaf : tree ≡ Tree.leaf other = cc in
      let only : Contains (other ∷ []) question = rw leaf at among in (
        k,
        below',
        get_or_default names k (question_code question) [] below' ∙ code
            ∙ ap question_code (only_item other question only),
      ),
  λ (k, below, is).
      let (other, good, code) = named k (question_code question) below in
      let good' = rw (← one_question question other (sym is ∙ code)) at good in
      let alone = spelling_alone question good' in (
        k,
        spelling question,
        rw length-map below,
        get_or-map spelled_name names k (question_code question) (spelling question) below
            ∙ ap spelled_name is ∙ ap spelling (question_in-code question),
        (Tree.leaf question, alone.reads.has, (zero, omega arith, refl)),
      ),
)
