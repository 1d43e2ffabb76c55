-- Sorted lists: the test for them, binary search in them, and that items have only one sorted
-- rearrangement.
use Rattle.std.proofs.lemmas.Grind.{common_steps}
use Rattle.std.proofs.{lemmas.Bool.cases_lt, lemmas.Bool.not-true, lemmas.Cmp.tied_itself}
use Rattle.std.proofs.{lemmas.List.Sums.sum_by-cons, Common.arith, lemmas.Fn.always_returns_same}
use Rattle.std.proofs.Common.{inl, inr, Bor, ◌≡◌, ◌↔◌, refl, sym, ap, subst, ◌∙◌, ℕ, suc, ◌+◌}
use Rattle.std.proofs.Common.{◌<◌, ◌≤◌, Bool, true, false, not, List, [], ◌∷◌, length, get_or}
use Rattle.std.proofs.lemmas.List.Sorted.{searchable_from_sorted, IsPermutation-sym}
use Rattle.std.proofs.lemmas.List.Sorted.{IsPermutation-trans, sum_by-IsPermutation}
use Rattle.std.specs.Prelude.{Option, Result, Ok, Err, IsTrue, IsPermutation, IsSorted, Contains}
use Rattle.std.specs.{Prelude.cond, Prelude.is_ok, Prelude.⊤, declared.cmp.Ordering.Ordering}
use Rattle.std.specs.{Bool.Decides, Cmp.IsTotalOrder, Cmp.Agrees, Fn.Called, Fn.ComputesKey, Fn.Mut}
use Rattle.std.specs.declared.cmp.Ordering.TheVariants.{Less, Equal, Greater}
use Rattle.std.specs.Cmp.Lexicographic.{bytes_decides, pointwise, pointwise_decides, slice_cmp}
use Rattle.std.specs.{Cmp.Lexicographic.texts_ties, Ordering.nat_cmp}
use Rattle.std.specs.{List.IsAllAdjacentAnswer, List.count_by, Ordering.eq_by_cmp}
use Rattle.std.specs.List.Sorted.{IsBinarySearchResult, IsSearchInRange}
use Rattle.std.specs.Ordering.{is_lt, is_le, is_eq, is_some_and, partial_le, ordering_reverse}
use Rattle.cfgx_targets.specs.SortedList.{IsSortedFrom}

-- texts that compare as equal are the same
pub equal_texts : (one other : List ℕ) → slice_cmp nat_cmp one other ≡ Equal → one ≡ other
equal_texts one other equal = (bytes_decides one other).0 (texts_ties one other ∙ ap is_eq equal)

module _ {X : Type 0} {R : X → X → Ordering} (o : IsTotalOrder R) where
  -- a value is not above another exactly if the other is not below it
  le-lt : (x y : X) → is_le (R x y) ≡ not (is_lt (R y x))
  le-lt x y = grind arith

  module _ {C : X → X → Option Ordering} (a : Agrees C R) where
    neighbors : (x y : X) → partial_le C x y ≡ not (is_lt (R y x))
    neighbors x y = ap (is_some_and is_le) (a x y) ∙ le-lt x y

    in_order : (x y : X) → partial_le C x y ≡ true → is_lt (R y x) ≡ false
    in_order x y h = not-true (is_lt (R y x)) (sym (neighbors x y) ∙ h)

    -- what `is_sorted` returns
    pub is_sorted-answers : (xs : List X) (r : Bool)
        → IsAllAdjacentAnswer (λ x y b. partial_le C x y ≡ b) xs r → IsTrue r ↔ IsSorted R xs
    is_sorted-answers xs true h = (λ _ k d _ lt. in_order _ _ (h k d lt), λ _. refl)
    is_sorted-answers [] false h = absurd (omega (arith, h.1))
    is_sorted-answers (x ∷ xs) false h =
        let low = get_or (x ∷ xs) h.0 x in
        let high = get_or (x ∷ xs) (h.0 + 1) x in (
          λ t. absurd cc,
          λ s.
              let rises : is_lt (R high low) ≡ false = s h.0 x (omega arith) h.1 in
              let falls : partial_le C low high ≡ false = h.2 x in
              sym falls ∙ (neighbors low high ∙ ap not rises),
        )

  -- a binary search of a sorted list finds an item exactly if it is a member
  pub binary_search-answers : (same : (x y : X) → R x y ≡ Equal → x ≡ y) (xs : List X) (x : X)
      → (r : Result ℕ ℕ) → IsSorted R xs → IsSearchInRange r (length xs)
      → IsBinarySearchResult (λ y. R y x) xs r → IsTrue (is_ok r) ↔ Contains xs x
  binary_search-answers same xs x (Ok i) s bound h = (λ _. (i, bound, same _ _ (h x)), λ _. refl)
  binary_search-answers same xs x (Err i) s bound h =
      let split = h (searchable_from_sorted o (λ y. y) xs x s) in (
        λ t. absurd cc,
        λ c.
            let place = c.0 in
            let found : get_or xs place x ≡ x = c.2 in
            let itself : R x x ≡ Equal = tied_itself o x in
            let below : place < i → R x x ≡ Less =
            λ lt. rw found at (split.0 place x (omega arith) lt) in
            let above : i ≤ place → R x x ≡ Greater = λ le. rw found at (split.1 place x le c.1) in
            absurd (elim (cases_lt place i)
            [ inl lt ↦ (let e = below lt in cc) | inr le ↦ (let e = above le in cc) ]),
      )

-- what a binary search finds, if each call of its closure returns the rank of a member
pub binary_search_by-gives : {X F : Type 0} {g : Mut F (Bor X × Unit {0}) Ordering} {f : F}
    → (rank : X → Ordering) (xs : List X) (r : Result ℕ ℕ)
    → ((ord : X → Ordering) → ComputesKey g ord f → IsBinarySearchResult ord xs r)
    → ((a : Bor X × Unit {0}) (answer : Ordering) (f' : F) → Called g f a answer f'
    → (answer ≡ rank a.0.now) × (f' ≡ f))
    → IsBinarySearchResult rank xs r
binary_search_by-gives {g = g} {f = f} rank xs r clause each = grind (arith, always_returns_same)

-- the number of members that are equal to `q`
abbrev count_equal : {X : Type 0} → (X → X → Ordering) → X → List X → ℕ
count_equal R q xs = count_by (λ y. is_eq (R q y)) xs

-- no member is below the one before it
abbrev pub Rises : {X : Type 0} → (X → X → Ordering) → List X → Type 0
Rises R [] = ⊤
Rises R (x ∷ []) = ⊤
Rises R (x ∷ y ∷ ys) = (is_lt (R y x) ≡ false) × Rises R (y ∷ ys)

IsSorted-tail : {X : Type 0} (R : X → X → Ordering) (x : X) (xs : List X) → IsSorted R (x ∷ xs)
    → IsSorted R xs
IsSorted-tail R x xs s k d _ lt =
    let next = s (suc k) d (omega arith) (omega arith) in grind arith

Rises-from : {X : Type 0} (R : X → X → Ordering) (xs : List X) → IsSorted R xs → Rises R xs
Rises-from R [] s = tt
Rises-from R (x ∷ []) s = tt
Rises-from R (x ∷ y ∷ ys) s =
    (s 0 x (omega arith) (omega arith), Rises-from R (y ∷ ys) (IsSorted-tail R x (y ∷ ys) s))

Rises-tail : {X : Type 0} (R : X → X → Ordering) (x : X) (xs : List X) → Rises R (x ∷ xs)
    → Rises R xs
Rises-tail a0 x xs s = grind arith

module _ {X : Type 0} {R : X → X → Ordering} (o : IsTotalOrder R) where
  -- a value below `y` is below every value that is not below `y`
  below-chain : (x y z : X) → R x y ≡ Less → is_lt (R z y) ≡ false → R x z ≡ Less
  below-chain x y z h up = grind arith

  -- a sorted list that begins above `q` has no member equal to `q`
  count_equal-below : (q y : X) (ys : List X) → R q y ≡ Less → Rises R (y ∷ ys)
      → count_equal R q (y ∷ ys) ≡ 0
  count_equal-below q y [] h s = rw (sum_by-cons, h) refl
  count_equal-below q y (z ∷ zs) h s =
      let rest = count_equal-below q z zs (below-chain q y z h s.0) s.1 in
      rw (sum_by-cons (λ w. cond (is_eq (R q w)) 1 0) y (z ∷ zs), h, rest) refl

  count_equal-first : (x : X) (xs : List X) → 0 < count_equal R x (x ∷ xs)
  count_equal-first x xs = grind (arith, common_steps)

  -- of two sorted lists with the same members, neither begins below the other
  not-below : (x y : X) (xs ys : List X) → Rises R (y ∷ ys)
      → ((q : X) → count_equal R q (x ∷ xs) ≡ count_equal R q (y ∷ ys)) → R x y ≡ Less → ⊥
  not-below x y xs ys t h less =
      omega (arith, count_equal-below x y ys less t, h x, count_equal-first x xs)

  -- two sorted lists with the same members are the same
  rises-same : (same : (x y : X) → R x y ≡ Equal → x ≡ y) (xs ys : List X) → Rises R xs → Rises R ys
      → ((q : X) → count_equal R q xs ≡ count_equal R q ys) → xs ≡ ys
  rises-same same [] [] s t h = refl
  rises-same same [] (y ∷ ys) s t h = absurd (omega (arith, h y, count_equal-first y ys))
  rises-same same (x ∷ xs) [] s t h = absurd (omega (arith, h x, count_equal-first x xs))
  rises-same same (x ∷ xs) (y ∷ ys) s t h =
      let first : x ≡ y = by_cases (R x y) refl in
      let rest = rises-same same xs ys (Rises-tail R x xs s) (Rises-tail R y ys t) (λ q.
      let counts = λ (z : X) (zs : List X). sum_by-cons (λ w. cond (is_eq (R q w)) 1 0) z zs in
      let one_if = λ (z : X). count_equal R q (z ∷ []) in
      let alike : one_if x ≡ one_if y = ap one_if first in
      omega (arith, h q, counts x xs, counts y ys, counts x [], counts y [], alike)) in
      cc
    where
      by_cases : (r : Ordering) → R x y ≡ r → x ≡ y
      by_cases Less e = absurd (not-below x y xs ys t h e)
      by_cases Equal e = same x y e
      by_cases Greater e = absurd (not-below y x ys xs s (λ q. sym (h q))
          (o.antisymm y x ∙ ap ordering_reverse e))

  -- sorted lists that are rearrangements of each other are the same
  pub sorted-same : (same : (x y : X) → R x y ≡ Equal → x ≡ y) (xs ys : List X)
      → IsPermutation xs ys → IsSorted R xs → IsSorted R ys → xs ≡ ys
  sorted-same same xs ys p s t = grind (arith, rises-same, Rises-from, sum_by-IsPermutation)

  module _ {E : X → X → Bool} (same : (x y : X) → R x y ≡ Equal → x ≡ y)
      (e : (x y : X) → E x y ≡ eq_by_cmp R x y) where
    decides-same : (x y : X) → Decides (E x y) (x ≡ y)
    decides-same x y = grind arith

    -- the test of two lists, member by member, decides whether they are the same
    pub lists-same : (xs ys : List X) → IsTrue (pointwise E xs ys) ↔ (xs ≡ ys)
    lists-same xs ys = pointwise_decides decides-same xs ys

    -- two sorted lists are equal exactly if their items are rearrangements of each other
    pub lists-made_same : (xs ys items others : List X)
        → IsSortedFrom R items xs → IsSortedFrom R others ys
        → IsTrue (pointwise E xs ys) ↔ IsPermutation items others
    lists-made_same xs ys items others s t =
        let back = IsPermutation-sym others ys t.rearranged in (
          λ h.
              let one = (lists-same xs ys).0 h in
              let moved : IsPermutation items ys =
              subst (λ zs. IsPermutation items zs) one s.rearranged in
              IsPermutation-trans items ys others moved back,
          λ h.
              let there = IsPermutation-trans xs items ys (IsPermutation-sym items xs s.rearranged)
              (IsPermutation-trans items others ys h t.rearranged) in
              (lists-same xs ys).1 (sorted-same same xs ys there s.sorted t.sorted),
        )
