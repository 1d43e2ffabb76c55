-- Worked examples of `read_below`: texts that write a number, and texts that write none.
use Rattle.std.proofs.Common.{◌≡◌, ◌^◌, refl}
use Rattle.std.specs.Prelude.{Some, None, codes}
use Rattle.cfgx_fields.specs.Number.{read_below}

record NumbersAreRead : Type 0 where
  zero : read_below (2 ^ 8) (codes "0") ≡ Some 0
  plain : read_below (2 ^ 8) (codes "64") ≡ Some 64
  plus : read_below (2 ^ 8) (codes "+64") ≡ Some 64
  leading_zero : read_below (2 ^ 8) (codes "064") ≡ Some 64
  many_zeros : read_below (2 ^ 8) (codes "+0000000064") ≡ Some 64
  highest : read_below (2 ^ 8) (codes "255") ≡ Some 255

numbers_are_read : NumbersAreRead
unfolding read_below
numbers_are_read = record {
  zero = refl;
  plain = refl;
  plus = refl;
  leading_zero = refl;
  many_zeros = refl;
  highest = refl;
}

record OtherTextsAreRefused : Type 0 where
  empty : read_below (2 ^ 8) (codes "") ≡ None
  plus_alone : read_below (2 ^ 8) (codes "+") ≡ None
  minus : read_below (2 ^ 8) (codes "-0") ≡ None
  two_pluses : read_below (2 ^ 8) (codes "++1") ≡ None
  space_before : read_below (2 ^ 8) (codes " 64") ≡ None
  space_within : read_below (2 ^ 8) (codes "6 4") ≡ None
  hexadecimal : read_below (2 ^ 8) (codes "0x40") ≡ None
  too_high : read_below (2 ^ 8) (codes "256") ≡ None

other_texts_are_refused : OtherTextsAreRefused
unfolding read_below
other_texts_are_refused = record {
  empty = refl;
  plus_alone = refl;
  minus = refl;
  two_pluses = refl;
  space_before = refl;
  space_within = refl;
  hexadecimal = refl;
  too_high = refl;
}
