-- Whole numbers in the values of target keys, such as `target_pointer_width = "64"`.
-- Source: `FromStr` of Rust's `u8` and `u16`, by which the crate `cfg-expr` reads these values.
use Rattle.std.specs.Prelude.{ℕ, Bool, false, ◌&&◌, if◌then◌else◌, List, [], ◌∷◌, Option, Some}
use Rattle.std.specs.Prelude.{None, nat_lt}
use Rattle.std.specs.{Str.all_ascii_digits, Str.Parse.digits_value, Str.Parse.without_leading_plus}

-- one ASCII digit or more, and nothing else
abbrev pub is_numeral : List ℕ → Bool
is_numeral [] = false
is_numeral (first ∷ others) = all_ascii_digits (first ∷ others)

-- the number of the digits, if they are digits and it is below the limit
abbrev pub numeral_below : ℕ → List ℕ → Option ℕ
numeral_below limit digits = if is_numeral digits && nat_lt (digits_value 10 digits) limit
    then Some (digits_value 10 digits) else None

-- The number below the limit that a text writes: at most one `+`, and then one ASCII digit or
-- more. Zeros may lead. Every other text writes none.
unfoldable pub read_below : ℕ → List ℕ → Option ℕ
read_below limit text = numeral_below limit (without_leading_plus text)
