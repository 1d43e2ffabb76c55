-- What a width of atomics or a byte order prints reads as the same value.
use Rattle.std.{proofs.Common.{◌≡◌, refl, ℕ, List, arith}, specs.Prelude.{Some, Result, Ok}}
use Rattle.cfgx_fields.specs.Endian.{endian_named, endian_text}
use Rattle.cfgx_fields.specs.HasAtomic.{IsWidth, ReadsAtomic, atomic_named, atomic_text}
use Rattle.cfgx_fields.specs.{declared.atomic.HasAtomic.HasAtomic, declared.endian.Endian.Endian}
use Rattle.cfgx_fields.specs.{declared.atomic.HasAtomicFailure.HasAtomicFailure, Number.read_below}
use Rattle.cfgx_fields.specs.declared.endian.Endian.TheVariants.{big, little}
use Rattle.cfgx_fields.proofs.NumberLemmas.{read_below-decimal}

-- the text of a byte order names it
pub endian_named-text : (endian : Endian) → endian_named (endian_text endian) ≡ Some endian
unfolding endian_named
endian_named-text big = refl
endian_named-text little = refl

-- the text of a width names it
pub atomic_named-text : (width : HasAtomic) → IsWidth width
    → atomic_named (atomic_text width) ≡ Some width
unfolding atomic_named read_below
atomic_named-text width fits = grind (arith, read_below-decimal)

-- a read of what a width prints returns that width
pub ReadsAtomic-text : {A : Type 0} (text : List ℕ) (result : Result HasAtomic (HasAtomicFailure A))
    → ReadsAtomic text result → (width : HasAtomic) → IsWidth width → text ≡ atomic_text width
    → result ≡ Ok width
ReadsAtomic-text text result reads width fits printed = grind (arith, atomic_named-text)
