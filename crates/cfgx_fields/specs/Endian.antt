-- Byte orders and their names, which are the values of the key `target_endian`.
-- Source: the Rust Reference, `target_endian`; `impl FromStr for Endian` of `cfg-expr` 0.20.10.
use Rattle.std.specs.Prelude.{◌≡◌, ℕ, List, [], ◌∷◌, codes, Option, Some, None, Result, Ok, Err}
use Rattle.std.specs.Prelude.{if◌then◌else◌}
use Rattle.std.specs.{Str.bytes_eq, declared.cmp.Ordering.Ordering, Ordering.nat_cmp}
use Rattle.cfgx_syntax.specs.{Error.unexpected, Error.cause_of, declared.error.Reason.Reason}
use Rattle.cfgx_fields.specs.declared.endian.Endian.{Endian}
use Rattle.cfgx_fields.specs.declared.endian.Endian.TheVariants.{big, little}

-- the name of a byte order
abbrev pub endian_text : Endian → List ℕ
endian_text big = codes "big"
endian_text little = codes "little"

-- the byte order that a text names, letter for letter
unfoldable pub endian_named : List ℕ → Option Endian
endian_named text = if bytes_eq text (endian_text big) then Some big
    else if bytes_eq text (endian_text little) then Some little else None

-- a read of a byte order returns the one that `text` names, or the names that are expected
abbrev pub ReadsEndian : List ℕ → Result Endian Reason → Type 0
ReadsEndian text (Ok endian) = endian_named text ≡ Some endian
ReadsEndian text (Err reason) = (endian_named text ≡ None)
    × (cause_of reason ≡ unexpected (endian_text big ∷ endian_text little ∷ []))

-- the rank of a byte order in their order
abbrev pub endian_rank : Endian → ℕ
endian_rank big = 0
endian_rank little = 1

abbrev pub endian_cmp : Endian → Endian → Ordering
endian_cmp one other = nat_cmp (endian_rank one) (endian_rank other)
