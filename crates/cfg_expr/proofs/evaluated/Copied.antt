-- The items of a slice, copied one after another.
use Rattle.std.proofs.Common.{◌≡◌, List, [], ◌∷◌, Option, Some, None, Bor, Iter, length, ap}
use Rattle.std.specs.{Iterator.AlwaysYields, Option.MatchOption, Prelude.option_copied}
use Rattle.std.specs.declared.iter.Copied.{Copied}

module _ {T : Type 0} where
  -- one call of `next`
  abbrev pub CopiesNext : Copied (Iter T) → Option T → Copied (Iter T) → Type 0
  CopiesNext s copy t = (item : Option (Bor T)) × MatchOption item
      ((length s.iter.rest.now ≡ 0) × (t.iter ≡ s.iter))
      (λ item. s.iter.rest.now ≡ item.now ∷ t.iter.rest.now) × (copy ≡ option_copied item)

  no-item : (s t : Copied (Iter T)) (item : T) → s.iter.rest.now ≡ []
      → CopiesNext s (Some item) t → ⊥
  no-item s t item are (None, ends, is) = absurd (cc)
  no-item s t item are (Some one, goes, is) = absurd (cc (are, goes))

  copied-first : (s t : Copied (Iter T)) (item first : T) (items : List T)
      → s.iter.rest.now ≡ first ∷ items → CopiesNext s (Some item) t
      → (item ≡ first) × (t.iter.rest.now ≡ items)
  copied-first s t item first items are (None, ends, is) = absurd (cc)
  copied-first s t item first items are (Some one, goes, is) = (cc (are, goes, is), cc (are, goes))

  none-left : (s t : Copied (Iter T)) (first : T) (items : List T)
      → s.iter.rest.now ≡ first ∷ items → CopiesNext s None t → ⊥
  none-left s t first items are (None, ends, is) = absurd (cc (ap length are, ends.0))
  none-left s t first items are (Some one, goes, is) = absurd (cc)

  pub copies-come : (items : List T) (s : Copied (Iter T)) → s.iter.rest.now ≡ items
      → AlwaysYields CopiesNext (λ item. item) s items
  copies-come [] s are = λ item t step. no-item s t item are step
  copies-come (first ∷ items) s are = (
    (λ t step. none-left s t first items are step),
    λ item t step.
        let next = copied-first s t item first items are step in
        (next.0, copies-come items t next.1),
  )
