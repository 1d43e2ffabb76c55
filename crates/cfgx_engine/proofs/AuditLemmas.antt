-- Each target gets the value that it gets alone.
use Rattle.std.proofs.Common.{◌≡◌, ◌∙◌, ◌≤◌, ◌<◌, ◌+◌, ◌==◌, ℕ, zero, suc, Bool, true, List, []}
use Rattle.std.proofs.Common.{◌∷◌, ◌++◌, Option, Some, ap, append_assoc, append-nil, arith, get_or}
use Rattle.std.proofs.Common.{length, map, sym, take, ⊎_elim}
use Rattle.std.proofs.lemmas.List.{flat_map_more, take_more}
use Rattle.std.specs.List.{AllZip, flat_map, slice_get}
use Rattle.std.proofs.{Math.Seq.take-suc, lemmas.List.take_all, lemmas.Slice.Zip.all_zipped_more}
use Rattle.std.proofs.lemmas.Option.{slice_get_cases, slice_get_within}
use Rattle.cfgx_syntax.specs.Kleene.{EachLane, Planes, lane}
use Rattle.cfgx_grammar.specs.Answer.{HasOneTree}
use Rattle.cfgx_grammar.specs.Tree.{asked}
use Rattle.cfg_expr.specs.Filling.{three_valued}
use Rattle.cfg_expr.specs.Fold.{tree_fold}
use Rattle.cfgx_grammar.specs.Question.{Question}
use Rattle.cfgx_grammar.proofs.{Alike.AllZip-append, Answering.only_tree}
use Rattle.cfgx_engine.specs.Audits.{HasValueOver}
use Rattle.cfgx_engine.specs.internal.InLanes.{AddsEach, InLanes, TellsValue, lane_values}

-- Outputs that are added one after another.

module _ {X V : Type 0} (Gives : X → V → Type 0) where
  pub AddsEach-none : (outputs : List V) → AddsEach Gives [] outputs outputs
  AddsEach-none outputs = ([], sym (append-nil outputs), tt)

  pub AddsEach-append : (items others : List X) (old middle new : List V)
      → AddsEach Gives items old middle → AddsEach Gives others middle new
      → AddsEach Gives (items ++ others) old new
  AddsEach-append items others old middle new one other = (
    one.0 ++ other.0,
    other.1 ∙ ap (λ xs. xs ++ other.0) one.1 ∙ append_assoc old one.0 other.0,
    AllZip-append Gives items others one.0 other.0 one.2 other.2,
  )

  -- outputs for one batch more
  pub AddsEach-batch : (batches : List (List X)) (i : ℕ) (d : List X) (old middle new : List V)
      → i < length batches → AddsEach Gives (flat_map (λ batch. batch) (take i batches)) old middle
      → AddsEach Gives (get_or batches i d) middle new
      → AddsEach Gives (flat_map (λ batch. batch) (take (i + 1) batches)) old new
  AddsEach-batch batches i d old middle new below one other =
      let before = take i batches in
      let batch = get_or batches i d in
      rw (take_more batches i d below, ← flat_map_more (λ batch. batch) [] before batch)
      (AddsEach-append (flat_map (λ batch. batch) before) batch old middle new one other)

-- the batches with one more, and what is left behind it, are all items
pub batches-more : {X : Type 0} (batches : List (List X)) (batch left others all : List X)
    → flat_map (λ batch. batch) batches ++ left ≡ all → left ≡ batch ++ others
    → flat_map (λ batch. batch) (batches ++ batch ∷ []) ++ others ≡ all
batches-more batches batch left others all so_far split =
    let before = flat_map (λ batch. batch) batches in
    rw (← flat_map_more (λ batch. batch) [] batches batch)
    (append_assoc before batch others ∙ ap (λ xs. before ++ xs) (sym split) ∙ so_far)

-- the batches are all items if nothing is left
pub batches-end : {X : Type 0} (batches : List (List X)) (left all : List X) (is_empty : Bool)
    → flat_map (λ batch. batch) batches ++ left ≡ all → is_empty ≡ (length left == 0)
    → is_empty ≡ true → flat_map (λ batch. batch) batches ≡ all
batches-end batches [] all is_empty so_far none holds =
    sym (append-nil (flat_map (λ batch. batch) batches)) ∙ so_far
batches-end batches (x ∷ left) all is_empty so_far none holds = absurd (grind arith)

-- a relation that follows from another
pub AllZip-weaker : {X Y : Type 0} (R S : X → Y → Type 0) → ((x : X) (y : Y) → R x y → S x y)
    → (xs : List X) (ys : List Y) → AllZip R xs ys → AllZip S xs ys
AllZip-weaker R S weaker [] [] zipped = tt
AllZip-weaker R S weaker (x ∷ xs) (y ∷ ys) zipped =
    (weaker x y zipped.0, AllZip-weaker R S weaker xs ys zipped.1)
AllZip-weaker R S weaker [] (y ∷ ys) zipped = absurd zipped
AllZip-weaker R S weaker (x ∷ xs) [] zipped = absurd zipped

-- two relations with one list between
AllZip-through : {X Y Z : Type 0} (R : X → Y → Type 0) (S : Y → Z → Type 0) (xs : List X)
    (ys : List Y) (zs : List Z) → AllZip R xs ys → AllZip S ys zs
    → AllZip (λ x z. (y : Y) × R x y × S y z) xs zs
AllZip-through R S [] [] [] one other = tt
AllZip-through R S (x ∷ xs) (y ∷ ys) (z ∷ zs) one other =
    ((y, one.0, other.0), AllZip-through R S xs ys zs one.1 other.1)
AllZip-through R S [] [] (z ∷ zs) one other = absurd other
AllZip-through R S [] (y ∷ ys) _ one other = absurd one
AllZip-through R S (x ∷ xs) [] _ one other = absurd one
AllZip-through R S (x ∷ xs) (y ∷ ys) [] one other = absurd other

module _ {T : Type 0} (targets : List T) where
  -- a relation of each target and the value in its lane relates the targets and the values
  lanes-zipped : (R : T → Option Bool → Type 0) (value : Planes) → ((i : ℕ) (target : T)
      → slice_get targets i ≡ Some target → R target (lane i value))
      → (n : ℕ) → n ≤ length targets → AllZip R (take n targets) (lane_values n value)
  lanes-zipped R value each zero within = tt
  lanes-zipped R value each (suc n) within =
      let before = lanes-zipped R value each n (omega (arith, within)) in
      ⊎_elim (λ found. rw (take-suc targets n found.0 found.1, found.3)
      (all_zipped_more R _ _ _ _ before (each n found.0 found.2))) (λ past.
      absurd (omega (arith, past.0, within))) (slice_get_cases targets n).1

  module _ (Answers : T → Question → Option Bool → Type 0) where
    -- the lanes of a target hold its answers
    lane-answers : (i : ℕ) (target : T) → slice_get targets i ≡ Some target
        → (questions : List Question) (answers : List Planes)
        → AllZip (InLanes Answers targets) questions answers
        → AllZip (Answers target) questions (map (lane i) answers)
    lane-answers i target is [] [] zipped = tt
    lane-answers i target is (q ∷ questions) (a ∷ answers) zipped =
        (zipped.0 i target is, lane-answers i target is questions answers zipped.1)
    lane-answers i target is [] (a ∷ answers) zipped = absurd zipped
    lane-answers i target is (q ∷ questions) [] zipped = absurd zipped

    -- so the lane of a target holds the value on it
    lane_values-zipped : {text : List ℕ} (answers given : List Planes) (value : Planes)
        → length targets ≤ 64 → given ≡ answers
        → (one : HasOneTree text) × AllZip (InLanes Answers targets) (asked one.tree) answers
        → (one : HasOneTree text)
        × EachLane value (λ i. tree_fold three_valued one.tree (map (lane i) given))
        → AllZip (λ target value. HasValueOver (Answers target) text value) targets
        (lane_values (length targets) value)
    lane_values-zipped {text} answers given value few same asks values =
        let tree = only_tree values.0 asks.0.tree asks.0.reads.has in
        let zipped = rw tree at asks.1 in
        let R = λ (target : T) (value : Option Bool). HasValueOver (Answers target) text value in
        let all = take_all (length targets) targets (omega arith) in
        rw all at (lanes-zipped R value (λ i target is. record {
          one = values.0;
          answers = map (lane i) answers;
          answered = lane-answers i target is (asked values.0.tree) answers zipped;
          value_is = values.1 i (omega (arith, few, slice_get_within targets i target is))
              ∙ ap (λ xs. tree_fold three_valued values.0.tree (map (lane i) xs)) same;
        }) (length targets) (omega arith))

    -- and so does each output for the lanes tell the value on its target
    pub lanes-told : {V : Type 0} (Gives : Option Bool → V → Type 0) {text : List ℕ}
        (answers given : List Planes) (value : Planes) (old new : List V)
        → length targets ≤ 64 → given ≡ answers
        → (one : HasOneTree text) × AllZip (InLanes Answers targets) (asked one.tree) answers
        → (one : HasOneTree text)
        × EachLane value (λ i. tree_fold three_valued one.tree (map (lane i) given))
        → AddsEach Gives (lane_values (length targets) value) old new
        → AddsEach (λ target. TellsValue Gives text (Answers target)) targets old new
    lanes-told Gives answers given value old new few same asks values adds = (
      adds.0,
      adds.1,
      AllZip-through _ Gives targets (lane_values (length targets) value) adds.0
          (lane_values-zipped answers given value few same asks values) adds.2,
    )
