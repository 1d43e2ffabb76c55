-- Widths of atomic operations (in names `atomic`, or `width`) and their texts, which are the values
-- of the key `target_has_atomic`.
-- Source: the Rust Reference, `target_has_atomic`; `HasAtomic` of `cfg-expr` 0.20.10.
use Rattle.std.specs.Prelude.{◌≡◌, ℕ, ◌^◌, ◌<◌, List, codes, Option, Some, None, Result, Ok, Err}
use Rattle.std.specs.Prelude.{if◌then◌else◌, option_map}
use Rattle.std.specs.{Fmt.decimal, Option.option_or, Str.bytes_eq}
use Rattle.std.specs.{declared.cmp.Ordering.Ordering, Ordering.nat_cmp}
use Rattle.std.specs.declared.cmp.Ordering.TheVariants.{Less, Equal, Greater}
use Rattle.cfgx_fields.specs.{Number.read_below, declared.atomic.HasAtomic.HasAtomic}
use Rattle.cfgx_fields.specs.declared.atomic.HasAtomicFailure.{HasAtomicFailure}
use Rattle.cfgx_fields.specs.declared.atomic.HasAtomicFailure.TheVariants.{Parse, Memory}
use Rattle.cfgx_fields.specs.declared.atomic.HasAtomic.TheVariants.{IntegerSize, Pointer}

-- a number of bits in decimal, or `ptr`
abbrev pub atomic_text : HasAtomic → List ℕ
atomic_text (IntegerSize bits) = decimal bits
atomic_text Pointer = codes "ptr"

-- the width of a pointer, if the text is its name
abbrev pub pointer_named : List ℕ → Option HasAtomic
pointer_named text = if bytes_eq text (atomic_text Pointer) then Some Pointer else None

-- the width that a text names: a number of sixteen bits, or `ptr`
unfoldable pub atomic_named : List ℕ → Option HasAtomic
atomic_named text =
    option_or (option_map IntegerSize (read_below (2 ^ 16) text)) (pointer_named text)

-- the number of bits fits into the sixteen bits of the program's type
abbrev pub IsWidth : HasAtomic → Type 0
IsWidth (IntegerSize bits) = bits < 2 ^ 16
IsWidth Pointer = Unit {0}

-- the text of a failure that has one
abbrev pub refused_text : {A : Type 0} → HasAtomicFailure A → Option (List ℕ)
refused_text (Parse error) = Some error
refused_text (Memory _) = None

-- A read of a width returns the width that `text` names. Only if it names none, the result is the
-- error with `text`, or `Memory`.
abbrev pub ReadsAtomic : {A : Type 0} → List ℕ → Result HasAtomic (HasAtomicFailure A) → Type 0
ReadsAtomic text (Ok width) = atomic_named text ≡ Some width
ReadsAtomic text (Err (Parse error)) = (atomic_named text ≡ None) × (error ≡ text)
ReadsAtomic text (Err (Memory error)) = atomic_named text ≡ None

-- the order of widths: numbers of bits in order, and then the width of a pointer
abbrev pub atomic_cmp : HasAtomic → HasAtomic → Ordering
atomic_cmp (IntegerSize bits) (IntegerSize others) = nat_cmp bits others
atomic_cmp (IntegerSize _) Pointer = Less
atomic_cmp Pointer (IntegerSize _) = Greater
atomic_cmp Pointer Pointer = Equal
