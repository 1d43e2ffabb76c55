-- Items that are written over those of a buffer, one after another.
use Rattle.std.proofs.Common.{◌≡◌, ◌∙◌, ◌+◌, ◌<◌, ◌≤◌, ℕ, suc, List, [], ◌∷◌, ◌++◌, ap}
use Rattle.std.proofs.Common.{append_assoc, arith, drop, get_or, length, map, sym, take, refl}
use Rattle.std.proofs.Math.ListN.{set}
use Rattle.std.proofs.lemmas.List.{drop-drop, drop_at, length-append, length-drop, length-map}
use Rattle.std.proofs.lemmas.List.{length-take-le, map-append, set_split, take_at, take_more}

module _ {X Y : Type 0} (f : X → Y) where
  -- one item more
  pub written_next : (front : List X) (x : X) (old buffer : List Y) (i : ℕ) → i ≡ length front
      → i < length old → buffer ≡ map f front ++ drop i old
      → set buffer i (f x) ≡ map f (front ++ x ∷ []) ++ drop (i + 1) old
  written_next front x old buffer i at fits is =
      let shown = map f front in
      let long : length shown ≡ i = length-map front f ∙ sym at in
      let whole : i < length (shown ++ drop i old) = omega (
        arith,
        fits,
        long,
        length-append shown (drop i old),
        length-drop i old,
      ) in
      let next : suc i ≡ i + 1 = omega arith in
      let rest : drop (suc i) (shown ++ drop i old) ≡ drop (i + 1) old =
      ap (λ n. drop n (shown ++ drop i old)) next
      ∙ sym (drop-drop 1 i (shown ++ drop i old))
      ∙ ap (drop 1) (drop_at shown (drop i old) i long) ∙ drop-drop 1 i old in
      rw (
        is,
        set_split (shown ++ drop i old) i (f x) whole,
        take_at shown (drop i old) i long,
        rest,
        map-append f front (x ∷ []),
        append_assoc,
      ) refl

  -- the next item of a list
  pub written_more : (xs : List X) (old buffer : List Y) (i : ℕ) (d : X) → i < length xs
      → length xs ≤ length old → buffer ≡ map f (take i xs) ++ drop i old
      → set buffer i (f (get_or xs i d)) ≡ map f (take (i + 1) xs) ++ drop (i + 1) old
  written_more xs old buffer i d below fits is = rw (take_more xs i d below)
      (written_next (take i xs) (get_or xs i d) old buffer i
      (sym (length-take-le i xs (omega (arith, below)))) (omega (arith, below, fits)) is)
