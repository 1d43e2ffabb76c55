-- The equality and the order of targets.
-- Source: the derived `PartialEq` and `Ord` of `TargetInfo` of `cfg-expr` 0.20.10, which take the
-- fields in turn.
use Rattle.std.specs.Prelude.{ℕ, Bool, ◌&&◌, ◌==◌, List}
use Rattle.std.specs.{declared.cmp.Ordering.Ordering, Ordering.nat_cmp, Ordering.ordering_then}
use Rattle.std.specs.{Cmp.Lexicographic.slice_cmp, Cmp.Lexicographic.pointwise, Str.bytes_eq}
use Rattle.std.specs.Option.{option_cmp, option_eq}
use Rattle.cfgx_fields.specs.{declared.atomic.HasAtomic.HasAtomic, declared.endian.Endian.Endian}
use Rattle.cfgx_fields.specs.{Endian.endian_cmp, HasAtomic.atomic_cmp}
use Rattle.cfgx_targets.specs.declared.info.TargetInfo.{TargetInfo}

-- whether all fields are equal, by the given tests of byte orders and of widths
abbrev pub info_eq : (Endian → Endian → Bool) → (HasAtomic → HasAtomic → Bool)
    → {A : Type 0} → TargetInfo A → TargetInfo A → Bool
info_eq endian_eq width_eq one other =
    bytes_eq one.triple other.triple
    && (option_eq bytes_eq one.os other.os
    && (option_eq bytes_eq one.abi other.abi
    && (bytes_eq one.arch other.arch
    && (option_eq bytes_eq one.env other.env
    && (option_eq bytes_eq one.vendor other.vendor
    && (pointwise bytes_eq one.families other.families
    && ((one.pointer_width == other.pointer_width)
    && (endian_eq one.endian other.endian
    && (pointwise width_eq one.has_atomics other.has_atomics
    && bytes_eq one.panic other.panic)))))))))

-- the order of texts, by their bytes
abbrev pub text_cmp : List ℕ → List ℕ → Ordering
text_cmp = slice_cmp nat_cmp

-- the order of targets, by the first field that differs
abbrev pub info_cmp : {A : Type 0} → TargetInfo A → TargetInfo A → Ordering
info_cmp one other =
    ordering_then (text_cmp one.triple other.triple)
    (ordering_then (option_cmp text_cmp one.os other.os)
    (ordering_then (option_cmp text_cmp one.abi other.abi)
    (ordering_then (text_cmp one.arch other.arch)
    (ordering_then (option_cmp text_cmp one.env other.env)
    (ordering_then (option_cmp text_cmp one.vendor other.vendor)
    (ordering_then (slice_cmp text_cmp one.families other.families)
    (ordering_then (nat_cmp one.pointer_width other.pointer_width)
    (ordering_then (endian_cmp one.endian other.endian)
    (ordering_then (slice_cmp atomic_cmp one.has_atomics other.has_atomics)
    (text_cmp one.panic other.panic))))))))))
