-- The built-in targets, which are a choice of this repository.
use Rattle.std.specs.Prelude.{ℕ, List, [], ◌∷◌, ◌++◌, codes, map, Option, Some, None}
use Rattle.cfgx_fields.specs.declared.atomic.HasAtomic.{HasAtomic}
use Rattle.cfgx_fields.specs.declared.atomic.HasAtomic.TheVariants.{IntegerSize, Pointer}
use Rattle.cfgx_fields.specs.declared.endian.Endian.TheVariants.{little}
use Rattle.cfgx_targets.specs.declared.info.TargetInfo.{TargetInfo}

-- the widths of `bits`, and then the width of a pointer
abbrev pub widths_and_pointer : List ℕ → List HasAtomic
widths_and_pointer bits = map IntegerSize bits ++ Pointer ∷ []

-- the row of a target of Apple, by the values in which these rows differ
abbrev pub apple_row : {A : Type 0} → List ℕ → List ℕ → Option (List ℕ) → Option (List ℕ)
    → TargetInfo A
apple_row triple os abi env = record {
  triple = triple;
  os = Some os;
  abi = abi;
  arch = codes "aarch64";
  env = env;
  vendor = Some (codes "apple");
  families = codes "unix" ∷ [];
  pointer_width = 64;
  endian = little;
  has_atomics = widths_and_pointer (8 ∷ 16 ∷ 32 ∷ 64 ∷ 128 ∷ []);
  panic = codes "unwind";
}

-- the rows, in the order of their triples
abbrev pub builtin_rows : {A : Type 0} → List (TargetInfo A)
builtin_rows = apple_row (codes "aarch64-apple-darwin") (codes "macos") None None
    ∷ apple_row (codes "aarch64-apple-ios") (codes "ios") None None
    ∷ apple_row (codes "aarch64-apple-ios-macabi") (codes "ios")
    (Some (codes "macabi")) (Some (codes "macabi"))
    ∷ apple_row (codes "aarch64-apple-ios-sim") (codes "ios")
    (Some (codes "sim")) (Some (codes "sim"))
    ∷ apple_row (codes "aarch64-apple-tvos") (codes "tvos") None None
    ∷ []
