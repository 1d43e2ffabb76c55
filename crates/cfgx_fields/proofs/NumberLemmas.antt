-- Rust's `parse` reads the numbers that `read_below` reads.
use Rattle.std.proofs.{lemmas.Bool.lt-ltb, Common.{◌≡◌, ℕ, ◌^◌, ◌<◌, Bool, true, List, arith}}
use Rattle.std.proofs.lemmas.Str.Parse.{IsNumeralModel, numerals_by_value, tells_all_ascii_digits}
use Rattle.std.proofs.lemmas.Str.Parse.{not_in_digits, without_leading_plus_none}
use Rattle.std.proofs.lemmas.Fmt.{decimal_is_IsNumeral, decimal_nonempty, digits_decimal}
use Rattle.std.specs.{Prelude.Some, Prelude.None, Prelude.Result, Prelude.cond, Bool.Decides}
use Rattle.std.specs.{Result.OkIff, Result.result_ok, Fmt.decimal, Str.all_ascii_digits}
use Rattle.std.specs.Str.Parse.{IsNumeral, ParsesUnsigned, digits_value, without_leading_plus}
use Rattle.cfgx_fields.specs.Number.{is_numeral, read_below}

-- std's numerals are ASCII digits
digits_model : IsNumeralModel (λ ds. all_ascii_digits ds ≡ true) (digits_value 10)
digits_model = numerals_by_value _ tells_all_ascii_digits

Decides-is_numeral : (ds : List ℕ) → Decides (is_numeral ds) (IsNumeral 10 ds)
Decides-is_numeral ds = grind (arith, digits_model)

-- a result that is `Ok` of the value exactly if the test is true, as an option
result_ok-OkIff : {E P : Type 0} (b : Bool) (v : ℕ) (r : Result ℕ E) → Decides b P → OkIff r P v
    → result_ok r ≡ cond b (Some v) None
result_ok-OkIff b v r d h = grind arith

-- what `parse` reads as an unsigned type of `k` bits
pub result_ok-parse : {E : Type 0} (k : ℕ) (bs : List ℕ) (r : Result ℕ E) → ParsesUnsigned k 10 bs r
    → result_ok r ≡ read_below (2 ^ k) bs
unfolding read_below
result_ok-parse k bs r h = grind (arith, Decides-is_numeral, result_ok-OkIff)

-- a decimal reads as the number that it writes
pub read_below-decimal : (limit n : ℕ) → n < limit → n < 2 ^ 64
    → read_below limit (decimal n) ≡ Some n
unfolding read_below
read_below-decimal limit n below small =
    let plain : without_leading_plus (decimal n) ≡ decimal n = without_leading_plus_none (decimal n)
    (not_in_digits digits_model (decimal n) 43 (digits_decimal digits_model n small)
    (λ h. absurd (omega (arith, h))) 0 (decimal_nonempty n small)) in
    grind (arith, Decides-is_numeral, decimal_is_IsNumeral, lt-ltb)
