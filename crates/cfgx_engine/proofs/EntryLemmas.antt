-- Entries of predicates: what they tell, and predicates beside answers.
use Rattle.std.proofs.Common.{◌≡◌, ◌↔◌, ◌∙◌, ◌<◌, ◌+◌, ◌++◌, ℕ, zero, suc, Bool, true, false}
use Rattle.std.proofs.Common.{List, [], ◌∷◌, Option, Some, None, ap, arith}
use Rattle.std.proofs.Common.{◌≢◌, drop, get_or, if◌then◌else◌, length, map, refl, sym}
use Rattle.std.proofs.Common.{Err, Ok}
use Rattle.std.proofs.Math.Path.{subst}
use Rattle.std.proofs.lemmas.List.{drop_more, get_or_default}
use Rattle.std.proofs.lemmas.List.Folds.{Any-from_list_any, list_any_at}
use Rattle.std.specs.Cmp.Lexicographic.{bytes_decides, pointwise_decides}
use Rattle.std.specs.Cmp.{tied_itself}
use Rattle.std.specs.{List.AllByRecursion, List.Contains}
use Rattle.std.specs.List.Sorted.{IsBinarySearchResult, IsSearchInRange, IsSorted}
use Rattle.std.specs.List.Sorted.{IsStrictlySortedBy}
use Rattle.std.specs.declared.cmp.Ordering.TheVariants.{Less}
use Rattle.cfgx_syntax.specs.Kleene.{Planes, lane}
use Rattle.cfgx_syntax.specs.Logic.{kleene_or}
use Rattle.cfgx_grammar.specs.Question.{Question}
use Rattle.cfgx_engine.specs.Facts.{IsNamed}
use Rattle.cfg_expr.specs.declared.expr.asked_texts.AskedTexts.{AskedTexts}
use Rattle.cfgx_engine.specs.internal.Index.{AreSorted, Entry}
use Rattle.cfgx_engine.specs.internal.Index.{entry_codes}
use Rattle.cfgx_engine.specs.internal.Index.{entry_told, is_among, paired, told}
use Rattle.cfg_expr.specs.Equality.{Code, code_cmp, code_eq, question_code, texts_code}
use Rattle.cfgx_engine.specs.internal.Named.{AreNames}
use Rattle.cfgx_engine.specs.internal.Named.{spelled}
use Rattle.cfgx_engine.proofs.NamedLemmas.{IsNamed-spelled, code_total, equal_codes, found}

-- Codes among others.

pub same_code : (one other : Code) → code_eq one other ≡ true → one ≡ other
same_code one other = (pointwise_decides bytes_decides one other).0

pub is_among-Contains : (names : List Code) (name : Code)
    → (is_among names name ≡ true) ↔ Contains names name
is_among-Contains names name = (
  λ yes.
      let (k, other, below, is, same) =
      Any-from_list_any (λ other. code_eq other name) names yes in
      (k, below, get_or_default names k name other below ∙ is ∙ same_code other name same),
  λ (k, below, is).
      list_any_at (λ other. code_eq other name) names k name below
      (ap (λ other. code_eq other name) is ∙ (pointwise_decides bytes_decides name name).1 refl),
)

-- a name is among codes exactly if a text that spells one of them names its question
pub is_among-IsNamed : (names : List Code) (question : Question) → AreNames names
    → (is_among names (question_code question) ≡ true) ↔ IsNamed (spelled names) question
is_among-IsNamed names question named =
    let among = is_among-Contains names (question_code question) in
    let spells = IsNamed-spelled names question named in
    (λ yes. spells.1 (among.0 yes), λ is. among.1 (spells.0 is))

-- Answers joined.

pub or_assoc : (x y z : Option Bool) → kleene_or (kleene_or x y) z ≡ kleene_or x (kleene_or y z)
or_assoc x y z = grind arith

pub or_comm : (x y : Option Bool) → kleene_or x y ≡ kleene_or y x
or_comm x y = grind arith

pub or_self : (x : Option Bool) → kleene_or x x ≡ x
or_self x = grind arith

pub or_false : (x : Option Bool) → kleene_or x (Some false) ≡ x
or_false (Some true) = refl
or_false (Some false) = refl
or_false None = refl

pub or_true : (x : Option Bool) → kleene_or (Some true) x ≡ Some true
or_true (Some true) = refl
or_true (Some false) = refl
or_true None = refl

pub false_or : (x : Option Bool) → kleene_or (Some false) x ≡ x
false_or (Some true) = refl
false_or (Some false) = refl
false_or None = refl

-- What entries tell.

pub told-append : (one other : List Entry) (name : Code) (i : ℕ)
    → told (one ++ other) name i ≡ kleene_or (told one name i) (told other name i)
told-append [] other name i = sym (false_or (told other name i))
told-append (entry ∷ one) other name i =
    rw (told-append one other name i)
    (sym (or_assoc (entry_told entry name i) (told one name i) (told other name i)))

-- an entry of another predicate tells false
pub entry_told-other : (entry : Entry) (name : Code) (i : ℕ) → texts_code entry.asked ≢ name
    → entry_told entry name i ≡ Some false
entry_told-other entry name i apart =
    one_of (code_eq (texts_code entry.asked) name) (lane i entry.answers)
    (λ same. apart (same_code (texts_code entry.asked) name same))
  where
    one_of : (same : Bool) (answer : Option Bool) → (same ≡ true → ⊥)
        → (if same then answer else Some false) ≡ Some false
    one_of true answer apart = absurd (apart refl)
    one_of false answer apart = refl

pub entry_told-same : (entry : Entry) (name : Code) (i : ℕ) → texts_code entry.asked ≡ name
    → entry_told entry name i ≡ lane i entry.answers
entry_told-same entry name i same =
    rw ((pointwise_decides bytes_decides (texts_code entry.asked) name).1 same) refl

-- codes that are less differ
pub apart_if_less : (one other : Code) → code_cmp one other ≡ Less → one ≢ other
apart_if_less one other less same =
    let equal = tied_itself code_total other in
    absurd (cc (ap (λ name. code_cmp name other) same, less, equal))

pub told_above : (entries : List Entry) (name : Code) (i : ℕ)
    → AllByRecursion (λ other. code_cmp name other ≡ Less) (entry_codes entries)
    → told entries name i ≡ Some false
told_above [] name i above = refl
told_above (entry ∷ entries) name i above =
    let apart = apart_if_less name (texts_code entry.asked) above.0 in
    rw (entry_told-other entry name i (λ same. apart (sym same)), told_above entries name i above.1)
    refl

-- a code at some place of a list of which all is above another one
pub above_at : (entries : List Entry) (k : ℕ) (d : Entry) (name : Code) → k < length entries
    → AllByRecursion (λ other. code_cmp name other ≡ Less) (entry_codes entries)
    → code_cmp name (texts_code (get_or entries k d).asked) ≡ Less
above_at [] k d name below above = absurd (omega arith)
above_at (entry ∷ entries) zero d name below above = above.0
above_at (entry ∷ entries) (suc k) d name below above =
    above_at entries k d name (omega (arith, below)) above.1

-- of sorted entries, that of a predicate tells what all tell
pub told_at : (entries : List Entry) (k : ℕ) (d : Entry) (name : Code) (i : ℕ) → k < length entries
    → AreSorted entries → texts_code (get_or entries k d).asked ≡ name
    → told entries name i ≡ lane i (get_or entries k d).answers
unfolding IsStrictlySortedBy
told_at [] k d name i below sorted is = absurd (omega arith)
told_at (entry ∷ entries) zero d name i below sorted is =
    let here : texts_code entry.asked ≡ name = is in
    let above = subst (λ name. AllByRecursion (λ other. code_cmp name other ≡ Less)
    (entry_codes entries)) here sorted.0 in
    rw (
      entry_told-same entry name i here,
      told_above entries name i above,
      or_false (lane i entry.answers),
    ) refl
told_at (entry ∷ entries) (suc k) d name i below sorted is =
    let less = above_at entries k d (texts_code entry.asked) (omega (arith, below)) sorted.0 in
    let less' = subst (λ name. code_cmp (texts_code entry.asked) name ≡ Less) is less in
    rw (
      entry_told-other entry name i (apart_if_less (texts_code entry.asked) name less'),
      false_or (told entries name i),
    ) (told_at entries k d name i (omega (arith, below)) sorted.1 is)

-- entries without that of a predicate tell false of it
pub told_none : (entries : List Entry) (name : Code) (i : ℕ)
    → (Contains (entry_codes entries) name → ⊥) → told entries name i ≡ Some false
told_none [] name i none = refl
told_none (entry ∷ entries) name i none =
    rw (
      entry_told-other entry name i (λ same. absurd (none (zero, omega arith, same))),
      told_none entries name i
          (λ (k, below, is). none (suc k, omega (arith, below), is)),
    ) refl

-- sorted codes are in the order that a search asks for
pub sorted_entries : (entries : List Entry) → AreSorted entries
    → IsSorted code_cmp (entry_codes entries)
unfolding IsStrictlySortedBy
sorted_entries [] sorted k d above below = absurd (omega arith)
sorted_entries (entry ∷ []) sorted k d above below = absurd (omega arith)
sorted_entries (entry ∷ other ∷ entries) sorted zero d above below =
    let name = texts_code entry.asked in
    let next = texts_code other.asked in
    let turned = code_total.antisymm next name in
    rw (turned, sorted.0.0) refl
sorted_entries (entry ∷ other ∷ entries) sorted (suc k) d above below =
    let next : suc k + 1 ≡ suc (k + 1) = omega arith in
    rw next (sorted_entries (other ∷ entries) sorted.1 k d (omega arith) (omega (arith, below)))

-- Predicates and answers in pairs.

pub paired-none : (names : List AskedTexts) → paired names [] ≡ []
paired-none [] = refl
paired-none (asked ∷ names) = refl

pub paired-append : (names more : List AskedTexts) (answers others : List Planes)
    → length names ≡ length answers
    → paired (names ++ more) (answers ++ others) ≡ paired names answers ++ paired more others
paired-append [] more [] others long = refl
paired-append [] more (x ∷ answers) others long = absurd (omega arith)
paired-append (asked ∷ names) more [] others long = absurd (omega arith)
paired-append (asked ∷ names) more (x ∷ answers) others long =
    rw (paired-append names more answers others (omega (arith, long))) refl

pub paired-drop : (i : ℕ) (names : List AskedTexts) (answers : List Planes)
    → drop i (paired names answers) ≡ paired (drop i names) (drop i answers)
paired-drop zero names answers = refl
paired-drop (suc i) [] answers = refl
paired-drop (suc i) (asked ∷ names) [] = sym (paired-none (drop i names))
paired-drop (suc i) (asked ∷ names) (x ∷ answers) = paired-drop i names answers

pub paired-length : (names : List AskedTexts) (answers : List Planes)
    → length names ≡ length answers
    → length (paired names answers) ≡ length names
paired-length [] answers long = refl
paired-length (asked ∷ names) [] long = absurd (omega arith)
paired-length (asked ∷ names) (x ∷ answers) long =
    ap suc (paired-length names answers (omega (arith, long)))

pub paired-codes : (names : List AskedTexts) (answers : List Planes) → length names ≡ length answers
    → entry_codes (paired names answers) ≡ map texts_code names
paired-codes [] answers long = refl
paired-codes (asked ∷ names) [] long = absurd (omega arith)
paired-codes (asked ∷ names) (x ∷ answers) long =
    rw (paired-codes names answers (omega (arith, long))) refl

-- some predicate, if there is one
pub item : (names : List AskedTexts) (i : ℕ) → i < length names → AskedTexts
item [] i below = absurd (omega arith)
item (asked ∷ names) i below = asked

pub paired-get : (names : List AskedTexts) (answers : List Planes) (i : ℕ)
    (asked : AskedTexts) (x : Planes)
    → length names ≡ length answers → i < length names
    → get_or (paired names answers) i (record { asked = asked; answers = x })
    ≡ record { asked = get_or names i asked; answers = get_or answers i x }
paired-get [] answers i asked x long below = absurd (omega arith)
paired-get (one ∷ names) [] i asked x long below = absurd (omega arith)
paired-get (one ∷ names) (y ∷ answers) zero asked x long below = refl
paired-get (one ∷ names) (y ∷ answers) (suc i) asked x long below =
    paired-get names answers i asked x (omega (arith, long)) (omega (arith, below))

-- what is left of pairs begins with the next predicate and its answers
pub paired-next : (names : List AskedTexts) (answers : List Planes) (i : ℕ)
    (asked : AskedTexts) (x : Planes)
    → length names ≡ length answers → i < length names → asked ≡ get_or names i asked
    → x ≡ get_or answers i x
    → drop i (paired names answers)
    ≡ record { asked = asked; answers = x } ∷ drop (i + 1) (paired names answers)
paired-next names answers i asked x long below is is' =
    rw (
      paired-drop i names answers,
      paired-drop (i + 1) names answers,
      drop_more names i asked below,
      drop_more answers i x (omega (arith, long, below)),
      ← is,
      ← is',
    ) refl

module _ (names : List AskedTexts) (answers : List Planes) (asked : Code)
    (long : length names ≡ length answers) (sorted : AreSorted (paired names answers)) where
  pub told_found : (k : ℕ) (x : Planes) → IsSearchInRange (Ok k) (length names)
      → IsBinarySearchResult (λ (name : AskedTexts). code_cmp (texts_code name) asked) names (Ok k)
      → x ≡ get_or answers k x → (i : ℕ) → lane i x ≡ told (paired names answers) asked i
  told_found k x in_range equal is i =
      let any = item names k in_range in
      let d : Entry = record { asked = any; answers = x } in
      let here = paired-get names answers k any x long in_range in
      let below : k < length (paired names answers) = rw (paired-length names answers long) in_range
      in
      let same = ap (λ (entry : Entry). texts_code entry.asked) here
      ∙ equal_codes (texts_code (get_or names k any)) asked (equal any) in
      sym (told_at (paired names answers) k d asked i below sorted same
      ∙ ap (λ (entry : Entry). lane i entry.answers) here ∙ ap (lane i) (sym is))

  pub told_missed : (k : ℕ) → IsSearchInRange (Err k) (length names)
      → IsBinarySearchResult (λ (name : AskedTexts). code_cmp (texts_code name) asked) names (Err k)
      → (i : ℕ) → Some false ≡ told (paired names answers) asked i
  told_missed k in_range parted i =
      let codes = paired-codes names answers long in
      let finds = found texts_code names asked (Err k) in_range parted
      (rw codes at (sorted_entries (paired names answers) sorted)) in
      sym (told_none (paired names answers) asked i
      (λ contains. absurd (cc (finds.1 (rw codes at contains)))))
