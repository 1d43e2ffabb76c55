-- The orders of byte orders and of widths are total, and agree with their equalities.
use Rattle.std.proofs.Common.{◌≡◌, refl}
use Rattle.std.specs.Ordering.{eq_by_cmp, ordering_reverse}
use Rattle.std.specs.Cmp.{IsTotalOrder, nat_cmp_total, on_total, unsigned_ties}
use Rattle.std.specs.declared.cmp.Ordering.TheVariants.{Less, Equal}
use Rattle.cfgx_fields.specs.{declared.endian.Endian.Endian, declared.atomic.HasAtomic.HasAtomic}
use Rattle.cfgx_fields.specs.declared.endian.Endian.TheVariants.{big, little}
use Rattle.cfgx_fields.specs.declared.atomic.HasAtomic.TheVariants.{IntegerSize, Pointer}
use Rattle.cfgx_fields.specs.contracts.endian.EndianPartialEq.TheImpl as endian_eq
use Rattle.cfgx_fields.specs.contracts.atomic.HasAtomicPartialEq.TheImpl as atomic_eq
use Rattle.cfgx_fields.specs.{Endian.endian_cmp, Endian.endian_rank, HasAtomic.atomic_cmp}

-- byte orders are equal exactly if neither is below the other
pub endian_eq-ties : (one other : Endian)
    → (endian_eq.ghosts).eq one other ≡ eq_by_cmp endian_cmp one other
endian_eq-ties big big = refl
endian_eq-ties big little = refl
endian_eq-ties little big = refl
endian_eq-ties little little = refl

pub endian_cmp-total : IsTotalOrder endian_cmp
endian_cmp-total = on_total endian_rank nat_cmp_total

-- widths are equal exactly if neither is below the other
pub atomic_eq-ties : (one other : HasAtomic)
    → (atomic_eq.ghosts).eq one other ≡ eq_by_cmp atomic_cmp one other
atomic_eq-ties (IntegerSize a) (IntegerSize b) = unsigned_ties a b
atomic_eq-ties (IntegerSize a) Pointer = refl
atomic_eq-ties Pointer (IntegerSize b) = refl
atomic_eq-ties Pointer Pointer = refl

antisymm : (x y : HasAtomic) → atomic_cmp x y ≡ ordering_reverse (atomic_cmp y x)
antisymm (IntegerSize a) (IntegerSize b) = nat_cmp_total.antisymm a b
antisymm (IntegerSize a) Pointer = refl
antisymm Pointer (IntegerSize b) = refl
antisymm Pointer Pointer = refl

trans : (x y z : HasAtomic) → atomic_cmp x y ≡ Less → atomic_cmp y z ≡ Less → atomic_cmp x z ≡ Less
trans (IntegerSize a) (IntegerSize b) (IntegerSize c) h k = nat_cmp_total.trans a b c h k
trans (IntegerSize a) (IntegerSize b) Pointer h k = refl
trans (IntegerSize a) Pointer (IntegerSize c) h k = absurd cc
trans (IntegerSize a) Pointer Pointer h k = refl
trans Pointer (IntegerSize b) z h k = absurd cc
trans Pointer Pointer z h k = absurd cc

congr : (x y z : HasAtomic) → atomic_cmp x y ≡ Equal → atomic_cmp x z ≡ atomic_cmp y z
congr (IntegerSize a) (IntegerSize b) (IntegerSize c) h = nat_cmp_total.congr a b c h
congr (IntegerSize a) (IntegerSize b) Pointer h = refl
congr (IntegerSize a) Pointer z h = absurd cc
congr Pointer (IntegerSize b) z h = absurd cc
congr Pointer Pointer z h = refl

pub atomic_cmp-total : IsTotalOrder atomic_cmp
atomic_cmp-total = record { antisymm = antisymm; trans = trans; congr = congr }
