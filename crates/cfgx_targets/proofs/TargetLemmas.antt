-- The comparisons of targets, field by field.
use Rattle.std.proofs.Common.{◌≡◌, refl}
use Rattle.std.specs.{declared.cmp.Ordering.Ordering, Ordering.ordering_then}
use Rattle.std.specs.declared.cmp.Ordering.TheVariants.{Less, Equal, Greater}
use Rattle.cfgx_targets.specs.laws.TargetEquality.{info_eq-Decides}

then-assoc : (a b c : Ordering)
    → ordering_then (ordering_then a b) c ≡ ordering_then a (ordering_then b c)
then-assoc Less b c = refl
then-assoc Equal b c = refl
then-assoc Greater b c = refl

-- eleven orders that are joined from the left are joined from the right
pub then-chain : (a b c d e f g h i j k : Ordering) {m n o p q r s t u v : Ordering}
    → m ≡ ordering_then a b → n ≡ ordering_then m c → o ≡ ordering_then n d
    → p ≡ ordering_then o e → q ≡ ordering_then p f → r ≡ ordering_then q g
    → s ≡ ordering_then r h → t ≡ ordering_then s i → u ≡ ordering_then t j
    → v ≡ ordering_then u k
    → v ≡ ordering_then a (ordering_then b (ordering_then c (ordering_then d (ordering_then e
    (ordering_then f (ordering_then g (ordering_then h (ordering_then i (ordering_then j k)))))))))
then-chain a b c d e f g h i j k e1 e2 e3 e4 e5 e6 e7 e8 e9 e10 =
    rw (e10, e9, e8, e7, e6, e5, e4, e3, e2, e1) (simp then-assoc)

pub ruleset info_eq_tells = (info_eq-Decides)
