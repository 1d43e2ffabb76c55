-- Tables of targets, sorted by their triples.
-- Source: the documentation of `ALL_BUILTINS` and `get_builtin_target_by_triple` of `cfg-expr`.
use Rattle.std.specs.Prelude.{◌≡◌, ℕ, ◌-◌, ◌<◌, List, length, Option, Some}
use Rattle.std.specs.{declared.cmp.Ordering.TheVariants.Less, Ordering.nat_cmp, Str.bytes_eq}
use Rattle.std.specs.Cmp.Lexicographic.{slice_cmp}
use Rattle.std.specs.List.{AllAdjacentBelow, find, slice_get}
use Rattle.cfgx_targets.specs.declared.info.TargetInfo.{TargetInfo}

-- the triple of `one` is below that of `next`, compared as bytes
abbrev pub IsBelow : {A : Type 0} → TargetInfo A → TargetInfo A → Type 0
IsBelow one next = slice_cmp nat_cmp one.triple next.triple ≡ Less

-- the triples strictly increase
abbrev pub AreIncreasing : {A : Type 0} → List (TargetInfo A) → Type 0
AreIncreasing rows = AllAdjacentBelow IsBelow rows (length rows)

-- the row at `place` is the first whose triple is not above the one before
pub record IsFirstNotAbove {A : Type 0} (rows : List (TargetInfo A)) (place : ℕ) : Type 0 where
  pub rising : AllAdjacentBelow IsBelow rows place
  pub not_first : 0 < place
  pub before : TargetInfo A
  pub row : TargetInfo A
  pub is_before : slice_get rows (place - 1) ≡ Some before
  pub is_row : slice_get rows place ≡ Some row
  pub not_above : ¬ IsBelow before row

-- the first row with the triple
abbrev pub row_with : {A : Type 0} → List ℕ → List (TargetInfo A) → Option (TargetInfo A)
row_with triple rows = find (λ row. bytes_eq row.triple triple) rows
