-- What `strip` keeps of a text with and without `cfg( )` around it.
use Rattle.std.proofs.Common.{◌≡◌, ◌≢◌, ℕ, ◌-◌, false, List, ◌++◌, length, drop, nat_eq, sym, refl}
use Rattle.std.proofs.Common.{Bool, true, ap, take, ◌+◌, ◌≤◌, ◌&&◌, ◌∙◌, arith, length-append}
use Rattle.std.proofs.Common.{length-take, length-drop}
use Rattle.std.proofs.lemmas.{List.take_all, List.Prefix.front_fits}
use Rattle.std.proofs.{lemmas.List.take_at, lemmas.Slice.Eq.starts_is, lemmas.Slice.Eq.ends_is}
use Rattle.std.proofs.{lemmas.Bool.Decides.Decides-eqb, lemmas.Bool.false_from_ne_true}
use Rattle.std.specs.Prelude.{codes, slice_range, if◌then◌else◌}
use Rattle.std.specs.List.{ends_with}
use Rattle.cfgx_syntax.specs.Stripping.{StandsBehind, strip, strip_offset}

-- all of a text that does not start with `cfg(` is kept
pub strip-bare : (text : List ℕ) → ((rest : List ℕ) → text ≢ codes "cfg(" ++ rest)
    → (text ≡ strip text) × (0 ≡ strip_offset text)
unfolding strip
strip-bare text none = grind arith

pub strip-wrapped : (text inner kept : List ℕ) → text ≡ codes "cfg(" ++ inner
    → inner ≡ kept ++ codes ")" → (kept ≡ strip text) × (4 ≡ strip_offset text)
unfolding strip
strip-wrapped text inner kept p q =
    let whole : text ≡ (codes "cfg(" ++ kept) ++ codes ")" = p ∙ ap (λ l. codes "cfg(" ++ l) q in
    let prefix = (starts_is Decides-eqb text (codes "cfg(") _ refl).1 inner p in
    let suffix = (ends_is Decides-eqb text (codes ")") _ refl).1 (codes "cfg(" ++ kept) whole in
    let left : drop 4 text ≡ kept ++ codes ")" = ap (drop 4) p ∙ q in
    let long : length kept ≡ length text - 1 - 4 =
    omega (arith, ap length whole, length-append kept (codes ")")) in
    rw (prefix, suffix, left) (sym (take_at kept (codes ")") _ long), refl)

-- in a text that starts with `cfg(` and ends with `)`, the `)` comes after the `cfg(`
ends_after : (inner before : List ℕ) → codes "cfg(" ++ inner ≡ before ++ codes ")"
    → inner ≡ drop 4 before ++ codes ")"
ends_after inner before e = grind arith

pub strip-prefixed : (text inner : List ℕ) → text ≡ codes "cfg(" ++ inner
    → ((before : List ℕ) → inner ≢ before ++ codes ")")
    → (text ≡ strip text) × (0 ≡ strip_offset text)
unfolding strip
strip-prefixed text inner p none =
    let prefix = (starts_is Decides-eqb text (codes "cfg(") _ refl).1 inner p in
    let other : ends_with nat_eq text (codes ")") ≡ false = false_from_ne_true _ (λ t.
    none _ (ends_after inner _ (sym p ∙ (ends_is Decides-eqb text (codes ")") _ refl).0 t))) in
    rw (prefix, other) (refl, refl)

-- Where the stripped text stands in the text.

module _ (text : List ℕ) where
  inside : 4 ≤ length text → StandsBehind text 4 (slice_range text 4 (length text - 1))
  inside long =
      let kept = slice_range text 4 (length text - 1) in
      let len : length kept ≡ length text - 1 - 4 =
      omega (arith, length-take {A = ℕ}, length-drop {A = ℕ}) in
      let same : length text - 1 - 4 ≡ length kept + 4 - 4 = omega arith in
      (ap (λ n. take n (drop 4 text)) same, omega arith)

  whole : StandsBehind text 0 text
  whole = (sym (take_all _ text (omega arith)), omega arith)

  by_test : (starts ends : Bool) → (starts ≡ true → 4 ≤ length text)
      → let wrapped = starts && ends in StandsBehind text (if wrapped then 4 else 0)
      (if wrapped then slice_range text 4 (length text - 1) else text)
  by_test true true long = inside (long refl)
  by_test true false long = whole
  by_test false ends long = whole

  pub strip-stands : StandsBehind text (strip_offset text) (strip text)
  unfolding strip
  strip-stands = by_test _ _ (λ is.
      front_fits text (codes "cfg(") _ ((starts_is Decides-eqb text (codes "cfg(") _ refl).0 is))

  -- what `strip` promises, by its first two clauses
  pub strip-promises : (kept : List ℕ) (offset : ℕ)
      → (kept ≡ strip text) × (offset ≡ strip_offset text)
      → (kept ≡ strip text) × (offset ≡ strip_offset text) × StandsBehind text offset kept
  strip-promises kept offset (is, behind) = (is, behind, rw (is, behind) strip-stands)
