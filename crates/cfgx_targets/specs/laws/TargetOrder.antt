-- The order of targets is total, and agrees with their equality.
use Rattle.std.proofs.Common.{◌≡◌, refl, Bool}
use Rattle.std.specs.{Prelude.Option, Prelude.Some, Prelude.None, declared.cmp.Ordering.Ordering}
use Rattle.std.specs.{Option.option_cmp, Option.option_eq, Ordering.eq_by_cmp}
use Rattle.std.specs.Cmp.{IsTotalOrder, both_tied, nat_cmp_total}
use Rattle.std.specs.Cmp.{on_total, then_total, unsigned_ties}
use Rattle.std.specs.Cmp.Lexicographic.{lists_ties, lists_total, nat_list_cmp_total, options_total}
use Rattle.std.specs.Cmp.Lexicographic.{texts_ties}
use Rattle.cfgx_targets.specs.declared.info.TargetInfo.{TargetInfo}
use Rattle.cfgx_targets.specs.TargetInfo.{info_cmp, info_eq, text_cmp}
use Rattle.cfgx_fields.specs.HasAtomic.{atomic_cmp}
use Rattle.cfgx_fields.specs.contracts.endian.EndianPartialEq.TheImpl as endian_eq
use Rattle.cfgx_fields.specs.contracts.atomic.HasAtomicPartialEq.TheImpl as atomic_eq
use Rattle.cfgx_fields.specs.laws.Orders.{atomic_cmp-total, atomic_eq-ties}
use Rattle.cfgx_fields.specs.laws.Orders.{endian_cmp-total, endian_eq-ties}

-- the order of optional values agrees with their equality, if that of values does
options_ties : {X : Type 0} {E : X → X → Bool} (R : X → X → Ordering)
    → ((x y : X) → E x y ≡ eq_by_cmp R x y)
    → (one other : Option X) → option_eq E one other ≡ eq_by_cmp (option_cmp R) one other
options_ties R t None None = refl
options_ties R t None (Some y) = refl
options_ties R t (Some x) None = refl
options_ties R t (Some x) (Some y) = t x y

-- targets are equal exactly if neither is below the other
pub info_eq-ties : {A : Type 0} (one other : TargetInfo A)
    → info_eq (endian_eq.ghosts).eq (atomic_eq.ghosts).eq one other ≡ eq_by_cmp info_cmp one other
info_eq-ties one other =
    both_tied _ _ _ _ (texts_ties one.triple other.triple)
    (both_tied _ _ _ _ (options_ties text_cmp texts_ties one.os other.os)
    (both_tied _ _ _ _ (options_ties text_cmp texts_ties one.abi other.abi)
    (both_tied _ _ _ _ (texts_ties one.arch other.arch)
    (both_tied _ _ _ _ (options_ties text_cmp texts_ties one.env other.env)
    (both_tied _ _ _ _ (options_ties text_cmp texts_ties one.vendor other.vendor)
    (both_tied _ _ _ _ (lists_ties text_cmp texts_ties one.families other.families)
    (both_tied _ _ _ _ (unsigned_ties one.pointer_width other.pointer_width)
    (both_tied _ _ _ _ (endian_eq-ties one.endian other.endian)
    (both_tied _ _ _ _ (lists_ties atomic_cmp atomic_eq-ties one.has_atomics other.has_atomics)
    (texts_ties one.panic other.panic))))))))))

pub info_cmp-total : {A : Type 0} → IsTotalOrder (info_cmp {A = A})
info_cmp-total =
    then_total (on_total (λ t. t.triple) nat_list_cmp_total)
    (then_total (on_total (λ t. t.os) (options_total nat_list_cmp_total))
    (then_total (on_total (λ t. t.abi) (options_total nat_list_cmp_total))
    (then_total (on_total (λ t. t.arch) nat_list_cmp_total)
    (then_total (on_total (λ t. t.env) (options_total nat_list_cmp_total))
    (then_total (on_total (λ t. t.vendor) (options_total nat_list_cmp_total))
    (then_total (on_total (λ t. t.families) (lists_total nat_list_cmp_total))
    (then_total (on_total (λ t. t.pointer_width) nat_cmp_total)
    (then_total (on_total (λ t. t.endian) endian_cmp-total)
    (then_total (on_total (λ t. t.has_atomics) (lists_total atomic_cmp-total))
    (on_total (λ t. t.panic) nat_list_cmp_total))))))))))
