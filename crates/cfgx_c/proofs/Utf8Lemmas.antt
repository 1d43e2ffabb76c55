-- The longest front of bytes that is UTF-8, and the parts that end in it or behind it.
use Rattle.std.proofs.Common.{◌≡◌, ◌∙◌, ◌-◌, ◌+◌, ◌<◌, ◌≤◌, ℕ, zero, suc, List, ap, arith}
use Rattle.std.proofs.Common.{drop, inl, inr, length, length-drop, length-take, sym, take}
use Rattle.std.proofs.lemmas.Bool.{cases_lt, cond_both}
use Rattle.std.proofs.lemmas.List.{take-take, take_all}
use Rattle.std.proofs.lemmas.Slice.{between_is}
use Rattle.std.proofs.lemmas.Str.{IsCharBoundary-from_take, IsUtf8-append, IsUtf8-between}
use Rattle.std.proofs.lemmas.Str.{IsUtf8-take, is_utf8-from_IsUtf8, utf8_valid_len_le}
use Rattle.std.proofs.Math.Seq.{take-add}
use Rattle.std.specs.Prelude.{slice_range}
use Rattle.std.specs.Str.{IsCharBoundary, IsUtf8, IsValidUpTo, is_utf8}
use Rattle.std.specs.Str.Lossy.{utf8_valid_len, valid_len_up_to}

-- no longer front is UTF-8

longest_up_to : (bytes : List ℕ) (n m : ℕ) → n ≤ m → IsUtf8 (take n bytes)
    → n ≤ valid_len_up_to bytes m
longest_up_to bytes n zero within utf8 = omega arith
longest_up_to bytes n (suc m) within utf8 =
    cond_both (is_utf8 (take (suc m) bytes)) (suc m) (valid_len_up_to bytes m) (λ k. n ≤ k)
    (λ is. within) (λ is. elim (cases_lt m n) [
      | inl above ↦ let same : n ≡ suc m = omega arith in
          absurd (cc (is_utf8-from_IsUtf8 (take (suc m) bytes) (rw same at utf8), is))
      | inr below ↦ longest_up_to bytes n m below utf8
    ])

longest : (bytes : List ℕ) (n : ℕ) → n ≤ length bytes → IsUtf8 (take n bytes)
    → n ≤ utf8_valid_len bytes
unfolding utf8_valid_len
longest bytes n within utf8 = longest_up_to bytes n (length bytes) within utf8

module _ (bytes front : List ℕ) (is : front ≡ take (utf8_valid_len bytes) bytes)
    (utf8 : IsUtf8 front) where
  -- the bytes up to `n`, if these are in front
  same_take : (n : ℕ) → n ≤ length front → take n front ≡ take n bytes
  same_take n within =
      let few : n ≤ utf8_valid_len bytes = omega (arith, ap length is, length-take {A = ℕ}) in
      ap (take n) is ∙ take-take n (utf8_valid_len bytes) bytes few

  -- a part that lies in the front
  pub same_part : (begin end : ℕ) → end ≤ length front
      → slice_range front begin end ≡ slice_range bytes begin end
  same_part begin end within =
      between_is front begin end ∙ ap (drop begin) (same_take end within)
      ∙ sym (between_is bytes begin end)

  module _ (begin end last : ℕ) (rises : begin ≤ end) (within : end ≤ length bytes)
      (begins : IsCharBoundary front begin) (cut : ¬ IsCharBoundary front end) (below : last ≤ end)
      (stands : IsCharBoundary front last)
      (nearest : (i : ℕ) → last < i → i ≤ end → ¬ IsCharBoundary front i) where
    behind : begin ≤ last
    behind =
        elim (cases_lt last begin) [
          | inl before ↦ absurd (nearest begin before rises begins)
          | inr after ↦ after
        ]

    short : last < end
    short =
        elim (cases_lt last end) [
          | inl before ↦ before
          | inr after ↦ let same : last ≡ end = omega arith in absurd (cut (rw same at stands))
        ]

    -- from the end before, no more bytes are UTF-8
    no_more : (n : ℕ) → last - begin < n → n ≤ end - begin → IsUtf8 (take n (drop begin bytes)) → ⊥
    no_more n more few good =
        let first = rw (same_take begin begins.0) at (IsUtf8-take front begin utf8 begins) in
        let both = rw (← take-add begin n bytes) at (IsUtf8-append _ _ first good) in
        let reaches = longest bytes (begin + n) (omega (arith, few, within, rises)) both in
        let all : length front ≡ utf8_valid_len bytes =
        omega (arith, ap length is, length-take {A = ℕ}, utf8_valid_len_le bytes) in
        let inside : begin + n ≤ length front = omega (arith, reaches, all) in
        nearest (begin + n) (omega (arith, more, behind)) (omega (arith, few, rises))
        (IsCharBoundary-from_take front (begin + n) utf8 inside
        (rw (same_take (begin + n) inside) both))

    -- If the front cannot be cut at an end, the part up to it is UTF-8 as far as the last place
    -- before it at which the front can be cut.
    pub cut_before : IsValidUpTo (slice_range bytes begin end) (last - begin)
    cut_before =
        let rest = drop begin bytes in
        record {
          short = omega (arith, short, behind, length-take {A = ℕ}, length-drop {A = ℕ});
          front = rw (take-take (last - begin) (end - begin) rest (omega (arith, below)))
              (rw (same_part begin last stands.0)
              at (IsUtf8-between front begin last utf8 behind begins stands));
          longest = λ m more good. elim (cases_lt m (end - begin)) [
            | inl less ↦ no_more m more (omega (arith, less))
                (rw (take-take m (end - begin) rest (omega (arith, less))) at good)
            | inr all ↦ no_more (end - begin) (omega (arith, short, behind)) (omega arith)
                (rw (take_all m (take (end - begin) rest) (omega (arith, all, length-take {A = ℕ})))
                at good)
          ];
        }
