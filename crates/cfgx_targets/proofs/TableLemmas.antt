-- Rows in the order of their triples: the first row out of order, and binary search.
use Rattle.std.proofs.{lemmas.Grind.common_steps, lemmas.Bool.cases_lt, lemmas.Cmp.alike_right}
use Rattle.std.proofs.lemmas.Option.{slice_get_read}
use Rattle.std.proofs.Common.{◌≡◌, refl, sym, ap, subst, ◌∙◌, inl, inr, ℕ, zero, suc, ◌+◌, ◌-◌, ◌<◌}
use Rattle.std.proofs.Common.{Bool, true, false, ◌&&◌, List, [], ◌∷◌, length, get_or, arith}
use Rattle.std.proofs.Common.{add-one}
use Rattle.std.proofs.{Common.nat_cmp, lemmas.List.Sorted.searchable_from_sorted}
use Rattle.std.specs.Prelude.{Some, None, Ok, Err}
use Rattle.std.specs.{declared.cmp.Ordering.Ordering, List.AllAdjacentBelow, List.find}
use Rattle.std.specs.declared.cmp.Ordering.TheVariants.{Less, Equal}
use Rattle.std.specs.{List.Sorted.IsBinarySearchResult, List.Sorted.IsSortedBy, Str.bytes_eq}
use Rattle.std.specs.Cmp.Lexicographic.{nat_list_cmp_total, slice_cmp, texts_ties}
use Rattle.std.specs.Ordering.{is_lt, is_ge, is_eq, ordering_reverse}
use Rattle.std.specs.Cmp.{first_so, second_so}
use Rattle.cfgx_targets.specs.{Builtins.builtin_rows, declared.info.TargetInfo.TargetInfo}
use Rattle.cfgx_targets.specs.Table.{IsBelow, AreIncreasing, IsFirstNotAbove, row_with}

-- `find` finds the first member that passes a test
find-at : {X : Type 0} (p : X → Bool) (xs : List X) (i : ℕ) (x : X) → i < length xs
    → x ≡ get_or xs i x → p x ≡ true → ((k : ℕ) → k < i → p (get_or xs k x) ≡ false)
    → find p xs ≡ Some x
find-at p [] i x lt is passes fails = absurd (omega (arith, lt))
find-at p (y ∷ ys) zero x lt is passes fails = grind arith
find-at p (y ∷ ys) (suc i) x lt is passes fails =
    let first : p y ≡ false = fails 0 (omega arith) in
    rw first (find-at p ys i x (omega (arith, lt)) is passes
    (λ k h. fails (suc k) (omega (arith, h))))

find-none : {X : Type 0} (p : X → Bool) (xs : List X)
    → ((k : ℕ) (d : X) → k < length xs → p (get_or xs k d) ≡ false) → find p xs ≡ None
find-none p [] fails = refl
find-none p (y ∷ ys) fails =
    let first : p y ≡ false = fails 0 y (omega arith) in
    rw first (find-none p ys (λ k d h. fails (suc k) d (omega (arith, h))))

module _ {A : Type 0} (rows : List (TargetInfo A)) where
  abbrev order : TargetInfo A → TargetInfo A → Ordering
  order one other = slice_cmp nat_cmp one.triple other.triple

  -- a row and the row before it
  module _ (place : ℕ) (before row : TargetInfo A) (beyond : 0 < place)
      (inside : place < length rows) (rising : AllAdjacentBelow IsBelow rows place)
      (is_before : before ≡ get_or rows (place - 1) before) (is_row : row ≡ get_or rows place row)
    where
      -- the row is the first that is not above the one before
      pub first-not_above : is_ge (order before row) ≡ true → IsFirstNotAbove rows place
      first-not_above ge = record {
        rising = rising;
        not_first = beyond;
        before = before;
        row = row;
        is_before = slice_get_read rows _ (place - 1) before refl (omega arith) is_before;
        is_row = slice_get_read rows _ place row refl inside is_row;
        not_above = λ below. absurd
            (let less : is_ge (order before row) ≡ false = ap is_ge below in cc);
      }

      -- the row is above the one before
      pub below-more : is_ge (order before row) ≡ false → AllAdjacentBelow IsBelow rows (place + 1)
      below-more lt = grind (arith, common_steps)

  module _ (up : AreIncreasing rows) where
    increasing-far : (i j : ℕ) (d : TargetInfo A) → i < j → j < length rows
        → IsBelow (get_or rows i d) (get_or rows j d)
    increasing-far i zero d lt inside = absurd (omega (arith, lt))
    increasing-far i (suc j) d lt inside =
        let step : IsBelow (get_or rows j d) (get_or rows (suc j) d) =
        rw add-one at (up j d (omega (arith, inside))) in
        let near : i ≡ j → IsBelow (get_or rows i d) (get_or rows (suc j) d) = λ e. rw e step in
        let triple = λ (k : ℕ). (get_or rows k d).triple in
        let far : i < j → IsBelow (get_or rows i d) (get_or rows (suc j) d) =
        λ h. nat_list_cmp_total.trans (triple i) (triple j) (triple (suc j))
        (increasing-far i j d h (omega (arith, inside))) step in
        elim (cases_lt i j) [ inl h ↦ far h | inr h ↦ near (omega (arith, h, lt)) ]

    in_order : IsSortedBy (λ a b. is_lt (slice_cmp nat_cmp a.triple b.triple)) rows
    in_order k d _ lt =
        let low = (get_or rows k d).triple in
        let high = (get_or rows (k + 1) d).triple in
        ap is_lt (nat_list_cmp_total.antisymm high low ∙ ap ordering_reverse (up k d lt))

    has_triple : (triple : List ℕ) (row : TargetInfo A) (r : Ordering)
        → slice_cmp nat_cmp row.triple triple ≡ r → bytes_eq row.triple triple ≡ is_eq r
    has_triple triple row r h = texts_ties row.triple triple ∙ ap is_eq h

    -- the row that a binary search finds is the one with the triple
    pub row_with-found : (triple : List ℕ) (place : ℕ) (row : TargetInfo A) → place < length rows
        → row ≡ get_or rows place row
        → IsBinarySearchResult (λ r. slice_cmp nat_cmp r.triple triple) rows (Ok place)
        → row_with triple rows ≡ Some row
    row_with-found triple place row inside is_row search =
        let equal : slice_cmp nat_cmp row.triple triple ≡ Equal =
        subst (λ z. slice_cmp nat_cmp z.triple triple ≡ Equal) (sym is_row) (search row) in
        find-at (λ r. bytes_eq r.triple triple) rows place row inside is_row
        (has_triple triple row Equal equal)
        (λ k h.
        let one = get_or rows k row in
        let below : slice_cmp nat_cmp one.triple row.triple ≡ Less =
        subst (λ z. slice_cmp nat_cmp one.triple z.triple ≡ Less) (sym is_row)
        (increasing-far k place row h inside) in
        let alike = alike_right nat_list_cmp_total row.triple triple one.triple equal in
        let less = sym alike ∙ below in has_triple triple one Less less)

    -- if a binary search finds no row, no row has the triple
    pub row_with-missing : (triple : List ℕ) (place : ℕ)
        → IsBinarySearchResult (λ row. slice_cmp nat_cmp row.triple triple) rows (Err place)
        → row_with triple rows ≡ None
    row_with-missing triple place search =
        let key = λ (row : TargetInfo A). row.triple in
        let rising = searchable_from_sorted nat_list_cmp_total key rows triple in_order in
        grind (arith, find-none, has_triple)

-- whether the triples strictly increase
abbrev are_increasing : {A : Type 0} → List (TargetInfo A) → Bool
are_increasing [] = true
are_increasing (row ∷ []) = true
are_increasing (row ∷ next ∷ rows) =
    is_lt (slice_cmp nat_cmp row.triple next.triple) && are_increasing (next ∷ rows)

is_lt-Less : (order : Ordering) → is_lt order ≡ true → order ≡ Less
is_lt-Less order below = grind arith

-- rows that pass the test are in order
increasing-from : {A : Type 0} (rows : List (TargetInfo A)) → are_increasing rows ≡ true
    → AreIncreasing rows
increasing-from [] test k d lt = absurd (omega (arith, lt))
increasing-from (row ∷ []) test k d lt = absurd (omega (arith, lt))
increasing-from (row ∷ next ∷ rows) test zero d lt = is_lt-Less _ (first_so _ _ test)
increasing-from (row ∷ next ∷ rows) test (suc k) d lt =
    let after = increasing-from (next ∷ rows) (second_so _ _ test) k d (omega (arith, lt)) in
    rw add-one (rw add-one at after)

-- the built-in targets are in order
pub builtin_rows-increasing : {A : Type 0} → AreIncreasing (builtin_rows {A = A})
builtin_rows-increasing = increasing-from builtin_rows refl
