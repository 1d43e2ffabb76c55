-- A text that is repeated.
use Rattle.std.proofs.Common.{◌≡◌, ℕ, zero, suc, ◌+◌, ◌*◌, ◌/◌, ◌%◌, List, [], ◌∷◌, ◌++◌, replicate}
use Rattle.std.proofs.Common.{refl, ap, arith, append_assoc}
use Rattle.std.{specs.List.repeat, proofs.lemmas.List.append-nil}
use Rattle.std.proofs.Math.Nat.{zero-add, suc-add, zero-mul}

module _ (xs : List ℕ) where
  repeat-append : (m n : ℕ) → repeat m xs ++ repeat n xs ≡ repeat (m + n) xs
  repeat-append zero n = rw zero-add refl
  repeat-append (suc m) n = rw (append_assoc, repeat-append m n, suc-add) refl

  -- one repetition more adds the text at the end
  pub repeat_more : (times : ℕ) → repeat (times + 1) xs ≡ repeat times xs ++ xs
  repeat_more times = rw (← repeat-append times 1, append-nil) refl

  repeat-repeat : (many times : ℕ) → repeat times (repeat many xs) ≡ repeat (times * many) xs
  repeat-repeat many zero = rw zero-mul refl
  repeat-repeat many (suc times) = grind (arith, repeat-append, repeat-repeat many times)

  -- blocks of 64, and then the rest, are all repetitions
  pub repeat-blocks : (block : List ℕ) (times : ℕ) → block ≡ repeat 64 xs
      → repeat (times / 64) block ++ repeat (times % 64) xs ≡ repeat times xs
  repeat-blocks block times is =
      let all : times / 64 * 64 + times % 64 ≡ times = omega arith in
      rw (is, repeat-repeat 64 (times / 64), repeat-append, all) refl

-- a text of one byte
pub repeat_one : (byte times : ℕ) → repeat times (byte ∷ []) ≡ replicate times byte
repeat_one byte zero = refl
repeat_one byte (suc times) = ap (λ l. byte ∷ l) (repeat_one byte times)
