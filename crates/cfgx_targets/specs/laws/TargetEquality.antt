-- Targets are the same exactly if their fields are the same.
use Rattle.std.proofs.Common.{arith, ◌≡◌, Bool, true, ◌&&◌}
use Rattle.std.specs.{Prelude.Option, Bool.Decides, Option.option_eq}
use Rattle.std.specs.Cmp.{IsEquivalence, decided, unsigned_Decides}
use Rattle.std.specs.Cmp.Lexicographic.{bytes_decides, pointwise_decides}
use Rattle.cfgx_targets.specs.{declared.info.TargetInfo.TargetInfo, TargetInfo.info_eq}
use Rattle.cfgx_fields.specs.{declared.endian.Endian.Endian, declared.atomic.HasAtomic.HasAtomic}
use Rattle.cfgx_fields.specs.contracts.endian.EndianPartialEq.TheImpl as endian_eq
use Rattle.cfgx_fields.specs.contracts.atomic.HasAtomicPartialEq.TheImpl as atomic_eq

endians-decide : (one other : Endian) → Decides ((endian_eq.ghosts).eq one other) (one ≡ other)
endians-decide one other = grind arith

widths-decide : (one other : HasAtomic) → Decides ((atomic_eq.ghosts).eq one other) (one ≡ other)
widths-decide one other = grind arith

-- the test of optional values decides, if the test of values does
options-decide : {X : Type 0} {E : X → X → Bool} → ((x y : X) → Decides (E x y) (x ≡ y))
    → (one other : Option X) → Decides (option_eq E one other) (one ≡ other)
options-decide d y one = grind arith

-- the test of targets decides, if the tests of their fields do
targets-decide : {A : Type 0} (one other : TargetInfo A)
    → {triple os abi arch env vendor families width endian atomics panic : Bool}
    → Decides triple (one.triple ≡ other.triple) → Decides os (one.os ≡ other.os)
    → Decides abi (one.abi ≡ other.abi) → Decides arch (one.arch ≡ other.arch)
    → Decides env (one.env ≡ other.env) → Decides vendor (one.vendor ≡ other.vendor)
    → Decides families (one.families ≡ other.families)
    → Decides width (one.pointer_width ≡ other.pointer_width)
    → Decides endian (one.endian ≡ other.endian)
    → Decides atomics (one.has_atomics ≡ other.has_atomics)
    → Decides panic (one.panic ≡ other.panic)
    → Decides (triple && (os && (abi && (arch && (env && (vendor && (families && (width
    && (endian && (atomics && panic)))))))))) (one ≡ other)
targets-decide one other a b c d e f g h i j k = grind arith

-- the test of two targets decides whether they are the same
pub info_eq-Decides : {A : Type 0} (one other : TargetInfo A)
    → Decides (info_eq (endian_eq.ghosts).eq (atomic_eq.ghosts).eq one other) (one ≡ other)
info_eq-Decides one other =
    targets-decide one other
    (bytes_decides _ _) (options-decide bytes_decides _ _)
    (options-decide bytes_decides _ _) (bytes_decides _ _)
    (options-decide bytes_decides _ _) (options-decide bytes_decides _ _)
    (pointwise_decides bytes_decides _ _) (unsigned_Decides _ _)
    (endians-decide one.endian other.endian)
    (pointwise_decides widths-decide _ _) (bytes_decides _ _)

pub info_eq-same : {A : Type 0} (one other : TargetInfo A)
    → info_eq (endian_eq.ghosts).eq (atomic_eq.ghosts).eq one other ≡ true → one ≡ other
info_eq-same one other = (info_eq-Decides one other).0

pub info_eq-equiv : {A : Type 0}
    → IsEquivalence (info_eq (endian_eq.ghosts).eq (atomic_eq.ghosts).eq {A = A})
info_eq-equiv = decided (info_eq (endian_eq.ghosts).eq (atomic_eq.ghosts).eq) info_eq-Decides
