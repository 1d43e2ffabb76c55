-- Lemmas on lists: facts of all items, and the items of two lists one after the other.
use Rattle.std.proofs.Common.{◌≡◌, ℕ, zero, suc, ◌+◌, ◌<◌, List, [], ◌∷◌, ◌++◌, length, Some}
use Rattle.std.proofs.Common.{refl, ap, arith}
use Rattle.std.specs.List.{AllByRecursion, slice_get}

-- Facts of all items.

pub all_of_both : {X : Type 0} (P : X → Type 0) (xs ys : List X) → AllByRecursion P xs
    → AllByRecursion P ys → AllByRecursion P (xs ++ ys)
all_of_both P [] ys one other = other
all_of_both P (x ∷ xs) ys one other = (one.0, all_of_both P xs ys one.1 other)

pub all_of_first : {X : Type 0} (P : X → Type 0) (xs ys : List X)
    → AllByRecursion P (xs ++ ys) → AllByRecursion P xs
all_of_first P [] ys all = tt
all_of_first P (x ∷ xs) ys all = (all.0, all_of_first P xs ys all.1)

pub all_of_second : {X : Type 0} (P : X → Type 0) (xs ys : List X)
    → AllByRecursion P (xs ++ ys) → AllByRecursion P ys
all_of_second P [] ys all = all
all_of_second P (x ∷ xs) ys all = all_of_second P xs ys all.1

-- The items of two lists.

module _ {X : Type 0} where
  pub slice_get-append : (xs ys : List X) (k : ℕ) → k < length xs
      → slice_get (xs ++ ys) k ≡ slice_get xs k
  slice_get-append [] ys k lt = absurd (omega (arith, lt))
  slice_get-append (x ∷ xs) ys zero lt = refl
  slice_get-append (x ∷ xs) ys (suc k) lt = slice_get-append xs ys k (omega (arith, lt))

  pub slice_get-append_seam : (xs : List X) (y : X) (ys : List X)
      → slice_get (xs ++ y ∷ ys) (length xs) ≡ Some y
  slice_get-append_seam [] y ys = refl
  slice_get-append_seam (x ∷ xs) y ys = slice_get-append_seam xs y ys

  pub slice_get-append-add : (xs ys : List X) (i n : ℕ) → n ≡ length xs + i
      → slice_get (xs ++ ys) n ≡ slice_get ys i
  slice_get-append-add [] ys i n at = ap (slice_get ys) (omega arith)
  slice_get-append-add (x ∷ xs) ys i zero at = absurd (omega arith)
  slice_get-append-add (x ∷ xs) ys i (suc n) at = slice_get-append-add xs ys i n (omega arith)
