-- The values of one condition more on many targets, and the first faulty one.
use Rattle.std.proofs.Common.{◌≡◌, ◌∙◌, ◌+◌, ◌*◌, ◌<◌, ℕ, zero, suc, Bool, List, []}
use Rattle.std.proofs.Common.{◌∷◌, ◌++◌, Option}
use Rattle.std.proofs.Common.{Bor, Err, None, Some, ⊎_elim, ap, arith, get_or, length}
use Rattle.std.proofs.Common.{map, refl, sym, take}
use Rattle.std.specs.List.{AllByRecursion}
use Rattle.std.specs.{List.AllZip, List.slice_get, Option.IsSomeAnd}
use Rattle.std.proofs.{Math.Nat.suc-mul, lemmas.List.length-append, lemmas.Nat.mul-add-lt}
use Rattle.std.proofs.lemmas.Option.{MatchOption-at_some, same_Some, slice_get_cases}
use Rattle.std.proofs.lemmas.{Option.slice_get_within, Slice.Zip.AllZip-left, Slice.Zip.AllZip-long}
use Rattle.std.proofs.lemmas.List.{length-map, map-append, take-map, take_more}
use Rattle.std.proofs.lemmas.Option.{slice_get-get_or}
use Rattle.std.proofs.lemmas.Option.{slice_get-map}
use Rattle.cfgx_syntax.specs.{Stripping.strip, Error.TextFault}
use Rattle.cfgx_grammar.specs.{Answer.HasOneTree, Question.Question, Tree.asked}
use Rattle.cfgx_grammar.proofs.ListLemmas.{all_of_both, slice_get-append, slice_get-append-add}
use Rattle.cfgx_grammar.proofs.ListLemmas.{slice_get-append_seam}
use Rattle.cfgx_engine.specs.Audits.{AreValues, FollowsConditions, HasValueOver, IsFirstFault}
use Rattle.cfgx_engine.specs.{Readings.ParsesAs, Request.texts}
use Rattle.cfgx_engine.{specs.internal.InLanes.AddsEach, specs.internal.InLanes.TellsValue}
use Rattle.cfgx_engine.proofs.AuditLemmas.{AllZip-weaker}

IsSomeAnd-weaker : {X : Type 0} (found : Option X) {P Q : X → Type 0} → ((x : X) → P x → Q x)
    → IsSomeAnd found P → IsSomeAnd found Q
IsSomeAnd-weaker None weaker holds = absurd holds
IsSomeAnd-weaker (Some x) weaker holds = weaker x holds

-- no condition has a value
pub AreValues-none : {T : Type 0} (Answers : T → Question → Option Bool → Type 0) (targets : List T)
    → AreValues Answers [] targets []
AreValues-none Answers targets = record {
  count = omega arith;
  each = λ i j condition target is. absurd (grind (arith, is));
}

module _ {T : Type 0} (Answers : T → Question → Option Bool → Type 0) (condition : List ℕ)
    (targets : List T) where
  abbrev Tells : T → Option Bool → Type 0
  Tells target = TellsValue (λ value output. output ≡ value) condition (Answers target)

  -- the value that was added for a target
  added-value : (added : List (Option Bool)) → AllZip Tells targets added → (j : ℕ) (target : T)
      → slice_get targets j ≡ Some target
      → IsSomeAnd (slice_get added j) (HasValueOver (Answers target) condition)
  added-value added each j target is =
      IsSomeAnd-weaker (slice_get added j) (λ output told. rw told.2 told.1)
      (MatchOption-at_some (Unit {0}) (λ target. IsSomeAnd (slice_get added j) (Tells target))
      target is (AllZip-left Tells targets added each j))

  pub AreValues-more : (conditions : List (List ℕ)) (old new : List (Option Bool))
      → AreValues Answers conditions targets old → AddsEach Tells targets old new
      → AreValues Answers (conditions ++ condition ∷ []) targets new
  AreValues-more conditions old new are adds =
      let m = length conditions in
      let n = length targets in
      let all = conditions ++ condition ∷ [] in
      let long = AllZip-long Tells targets adds.0 adds.2 in
      let more : length all ≡ m + 1 = length-append conditions (condition ∷ []) in
      let product : length all * n ≡ m * n + n =
      ap (λ k. k * n) (more ∙ omega arith) ∙ suc-mul m n in
      record {
        count = ap length adds.1 ∙ length-append old adds.0
            ∙ omega (arith, are.count, long, product);
        each = λ i j one target is is_target. ⊎_elim
            (λ found.
            let place = mul-add-lt i n j m found.1 (slice_get_within targets j target is_target) in
            rw (adds.1, slice_get-append old adds.0 (i * n + j) (omega (arith, place, are.count)))
            (are.each i j one target
            (sym (slice_get-append conditions (condition ∷ []) i found.1) ∙ is) is_target))
            (λ past.
            let last : i ≡ m = omega (arith, past.0, more, slice_get_within all i one is) in
            let same : condition ≡ one = same_Some condition one
            (sym (slice_get-append_seam conditions condition [])
            ∙ ap (slice_get all) (sym last) ∙ is) in
            rw (
              adds.1,
              last,
              ← same,
              slice_get-append-add old adds.0 j (m * n + j) (omega (arith, are.count)),
            )
            (added-value adds.0 adds.2 j target is_target))
            (slice_get_cases conditions i).1;
      }

-- the values of the condition at `i` are added to those of the conditions before it
pub AreValues-next : {T : Type 0} (Answers : T → Question → Option Bool → Type 0) (targets : List T)
    (conditions : List (List ℕ)) (i : ℕ) (d : List ℕ) (old new : List (Option Bool))
    → i < length conditions → AreValues Answers (take i conditions) targets old
    → AddsEach (Tells Answers (get_or conditions i d) targets) targets old new
    → AreValues Answers (take (i + 1) conditions) targets new
AreValues-next Answers targets conditions i d old new below are adds =
    rw (take_more conditions i d below) (AreValues-more Answers (get_or conditions i d) targets
    (take i conditions) old new are adds)

-- the condition at `i` and its values are added to those before it
pub values-more : {T : Type 0} (Answers : T → Question → Option Bool → Type 0) (targets : List T)
    (conditions : List (Bor (List ℕ))) (i : ℕ) (d : Bor (List ℕ)) (old new : List (Option Bool))
    → i < length conditions
    → AllByRecursion (λ text. HasOneTree (strip text)) (texts (take i conditions))
    × AreValues Answers (map strip (texts (take i conditions))) targets old
    → HasOneTree (strip (get_or conditions i d).now)
    → AddsEach (Tells Answers (strip (get_or conditions i d).now) targets) targets old new
    → AllByRecursion (λ text. HasOneTree (strip text)) (texts (take (i + 1) conditions))
    × AreValues Answers (map strip (texts (take (i + 1) conditions))) targets new
values-more Answers targets conditions i d old new below before one adds =
    rw (take_more conditions i d below, map-append, map-append) (
      all_of_both (λ text. HasOneTree (strip text)) (texts (take i conditions))
          ((get_or conditions i d).now ∷ []) before.0 (one, tt),
      AreValues-more Answers (strip (get_or conditions i d).now) targets
          (map strip (texts (take i conditions))) old new before.1 adds,
    )

-- each text before that at `index` is a condition
pub FollowsConditions-here : (conditions : List (Bor (List ℕ))) (index : ℕ)
    → index < length conditions
    → AllByRecursion (λ text. HasOneTree (strip text)) (texts (take index conditions))
    → FollowsConditions (texts conditions) index
FollowsConditions-here conditions index below each = record {
  below = simp length-map below;
  before = rw take-map each;
}

-- the text at `index` is the first that is faulty
pub IsFirstFault-here : (conditions : List (Bor (List ℕ))) (index : ℕ) (d : Bor (List ℕ))
    (fault : TextFault) → index < length conditions
    → AllByRecursion (λ text. HasOneTree (strip text)) (texts (take index conditions))
    → ParsesAs (get_or conditions index d).now (Err fault)
    → IsFirstFault (texts conditions) index fault
IsFirstFault-here conditions index d fault below each parses = record {
  text = (get_or conditions index d).now;
  stands = rw (slice_get-map, slice_get-get_or conditions index d below) refl;
  before = rw take-map each;
  parses = parses;
}

-- the item at the same place of a related list
AllZip-at : {X Y : Type 0} (R : X → Y → Type 0) (xs : List X) (ys : List Y) (i : ℕ) (x : X)
    → AllZip R xs ys → slice_get xs i ≡ Some x → (y : Y) × (slice_get ys i ≡ Some y) × R x y
AllZip-at R [] ys i x zipped is = absurd (grind (arith, is))
AllZip-at R (x ∷ xs) [] i one zipped is = absurd zipped
AllZip-at R (x ∷ xs) (y ∷ ys) zero one zipped is = (y, refl, rw (same_Some x one is) at zipped.0)
AllZip-at R (x ∷ xs) (y ∷ ys) (suc i) one zipped is = AllZip-at R xs ys i one zipped.1 is

-- values on some targets are those on others that answer as they do
pub AreValues-alike : {S T : Type 0} (One : S → Question → Option Bool → Type 0)
    (Other : T → Question → Option Bool → Type 0) (R : T → S → Type 0)
    → ((other : T) (one : S) → R other one → (question : Question) (answer : Option Bool)
    → One one question answer → Other other question answer)
    → (conditions : List (List ℕ)) (others : List T) (ones : List S) (values : List (Option Bool))
    → AllZip R others ones → AreValues One conditions ones values
    → AreValues Other conditions others values
AreValues-alike One Other R alike conditions others ones values zipped are =
    let long = AllZip-long R others ones zipped in
    record {
      count = are.count ∙ ap (λ n. length conditions * n) long;
      each = λ i j condition other is is_other.
          let found = AllZip-at R others ones j other zipped is_other in
          IsSomeAnd-weaker (slice_get values (i * length others + j)) (λ value
          (over : HasValueOver (One found.0) condition value). record {
            one = over.one;
            answers = over.answers;
            answered = AllZip-weaker (One found.0) (Other other) (alike other found.0 found.2)
                (asked over.one.tree) over.answers over.answered;
            value_is = over.value_is;
          }) (rw (sym long) (are.each i j condition found.0 is found.1));
    }
