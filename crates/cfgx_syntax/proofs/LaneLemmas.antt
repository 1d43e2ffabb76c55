-- What the operations on two planes do in each lane.
use Rattle.std.proofs.Common.{◌≡◌, ℕ, suc, ◌+◌, ◌*◌, ◌/◌, ◌%◌, ◌^◌, ◌≤◌, ◌<◌, min, max, true, false}
use Rattle.std.proofs.Common.{Some, refl, sym, ap, ◌∙◌}
use Rattle.std.proofs.Common.{arith, zero}
use Rattle.std.proofs.lemmas.Nat.{and_comm}
use Rattle.std.proofs.lemmas.Nat.Bits.{same_from_bits}
use Rattle.std.proofs.{lemmas.Bool.cases_lt, Common.⊎_elim}
use Rattle.std.proofs.lemmas.Nat.Bits.{bit_at_and, bit_at_or, bit_at-zero, bit_at-lt, bit_at_ones}
use Rattle.std.proofs.lemmas.Nat.Bits.{bit_at-suc, bit_at_above, bit_at_cat_low, bit_at_lowest}
use Rattle.std.specs.{Prelude.bit_and, Prelude.bit_or, Int.bit_at}
use Rattle.cfgx_syntax.specs.Kleene.{Planes, AreDisjoint, IsDisjoint, EachLane, lane}
use Rattle.cfgx_syntax.specs.Kleene.{answer_of_bits, behind}
use Rattle.cfgx_syntax.specs.Logic.{kleene_and, kleene_or, kleene_not}
use Rattle.cfgx_syntax.specs.Kleene.{planes_and, planes_or, planes_not, planes_top, planes_bottom}

-- planes that are disjoint are so in each lane, and the other way round
disjoint_at : (t f i : ℕ) → AreDisjoint t f → bit_at t i + bit_at f i ≤ 1
disjoint_at t f i disjoint =
    let least : min (bit_at t i) (bit_at f i) ≡ 0 =
    sym (bit_at_and t f i) ∙ ap (λ n. bit_at n i) disjoint ∙ bit_at-zero i in
    omega (arith, bit_at-lt t i, bit_at-lt f i)

pub AreDisjoint-from : (t f : ℕ) → ((i : ℕ) → bit_at t i + bit_at f i ≤ 1) → AreDisjoint t f
AreDisjoint-from t f each =
    same_from_bits (bit_and t f) 0 (λ i. rw (bit_at_and, bit_at-zero) (omega (arith, each i)))

pub AreDisjoint-and : (t f u g : ℕ) → AreDisjoint t f → AreDisjoint u g
    → AreDisjoint (bit_and t u) (bit_or f g)
AreDisjoint-and t f u g one other =
    grind (arith, AreDisjoint-from, bit_at_and, bit_at_or, disjoint_at)

pub AreDisjoint-not : (t f : ℕ) → AreDisjoint t f → AreDisjoint f t
AreDisjoint-not t f disjoint = and_comm f t ∙ disjoint

pub AreDisjoint-or : (t f u g : ℕ) → AreDisjoint t f → AreDisjoint u g
    → AreDisjoint (bit_or t u) (bit_and f g)
AreDisjoint-or t f u g one other = grind (arith, AreDisjoint-not, AreDisjoint-and)

by_and : (t f u g : ℕ) → t + f ≤ 1 → u + g ≤ 1
    → answer_of_bits (min t u) (max f g) ≡ kleene_and (answer_of_bits t f) (answer_of_bits u g)
by_and t f u g one other = grind arith

by_or : (t f u g : ℕ) → t + f ≤ 1 → u + g ≤ 1
    → answer_of_bits (max t u) (min f g) ≡ kleene_or (answer_of_bits t f) (answer_of_bits u g)
by_or t f u g one other = grind arith

by_not : (t f : ℕ) → t + f ≤ 1 → answer_of_bits f t ≡ kleene_not (answer_of_bits t f)
by_not t f few = grind arith

pub EachLane-and : (one other : Planes) → IsDisjoint one → IsDisjoint other
    → EachLane (planes_and one other) (λ i. kleene_and (lane i one) (lane i other))
EachLane-and one other first second i below =
    rw (bit_at_and, bit_at_or) (by_and _ _ _ _ (disjoint_at _ _ i first) (disjoint_at _ _ i second))

pub EachLane-or : (one other : Planes) → IsDisjoint one → IsDisjoint other
    → EachLane (planes_or one other) (λ i. kleene_or (lane i one) (lane i other))
EachLane-or one other first second i below =
    rw (bit_at_or, bit_at_and) (by_or _ _ _ _ (disjoint_at _ _ i first) (disjoint_at _ _ i second))

pub EachLane-not : (planes : Planes) → IsDisjoint planes
    → EachLane (planes_not planes) (λ i. kleene_not (lane i planes))
EachLane-not planes disjoint i below = by_not _ _ (disjoint_at _ _ i disjoint)

pub EachLane-top : EachLane planes_top (λ _. Some true)
EachLane-top i below = rw (bit_at_ones 64 i below) refl

pub EachLane-bottom : EachLane planes_bottom (λ _. Some false)
EachLane-bottom i below = rw (bit_at-zero i, bit_at_ones 64 i below) refl

-- what each operation on two planes keeps and does
pub ruleset keeping = (AreDisjoint-and, AreDisjoint-or, AreDisjoint-not)

pub ruleset doing = (EachLane-and, EachLane-or, EachLane-not, EachLane-top, EachLane-bottom)

pub ruleset lanes = (keeping, doing)

-- a plane whose lanes are moved up by one, with a bit as lane 0

moved-first : (n bit : ℕ) → bit ≤ 1 → bit_at (bit_or (n * 2 % 2 ^ 64) bit) 0 ≡ bit
moved-first n bit few =
    rw bit_at_or (omega (arith, bit_at_lowest (n * 2 % 2 ^ 64), bit_at_lowest bit))

moved-next : (n bit i : ℕ) → bit ≤ 1 → suc i < 64
    → bit_at (bit_or (n * 2 % 2 ^ 64) bit) (suc i) ≡ bit_at n i
moved-next n bit i few below =
    let none : bit / 2 ≡ 0 = omega arith in
    let half : n * 2 / 2 ≡ n = omega arith in
    let whole : n * 2 / 2 ^ 64 * 2 ^ 64 + n * 2 % 2 ^ 64 ≡ n * 2 = omega arith in
    let low = bit_at_cat_low (n * 2 / 2 ^ 64) 64 (n * 2 % 2 ^ 64) (suc i) below in
    rw (bit_at_or, ← low, whole, bit_at-suc (n * 2) i, half, bit_at-suc bit i, none, bit_at-zero i)
    (omega arith)

moved-above : (n bit i : ℕ) → bit ≤ 1 → 64 ≤ i → bit_at (bit_or (n * 2 % 2 ^ 64) bit) i ≡ 0
moved-above n bit i few above =
    rw bit_at_or (omega (
      arith,
      bit_at_above (n * 2 % 2 ^ 64) 64 i (omega arith) above,
      bit_at_above bit 64 i (omega arith) above,
    ))

moved-few : (t f one other i : ℕ) → one + other ≤ 1 → AreDisjoint t f
    → bit_at (bit_or (t * 2 % 2 ^ 64) one) i + bit_at (bit_or (f * 2 % 2 ^ 64) other) i ≤ 1
moved-few t f one other zero few disjoint =
    rw (moved-first t one (omega arith), moved-first f other (omega arith)) few
moved-few t f one other (suc i) few disjoint = ⊎_elim
    (λ below. rw (moved-next t one i (omega arith) below, moved-next f other i (omega arith) below)
    (disjoint_at t f i disjoint))
    (λ above. omega (
      arith,
      moved-above t one (suc i) (omega arith) above,
      moved-above f other (suc i) (omega arith) above,
    )) (cases_lt (suc i) 64)

pub AreDisjoint-moved : (t f one other : ℕ) → one + other ≤ 1 → AreDisjoint t f
    → AreDisjoint (bit_or (t * 2 % 2 ^ 64) one) (bit_or (f * 2 % 2 ^ 64) other)
AreDisjoint-moved t f one other few disjoint =
    AreDisjoint-from _ _ (λ i. moved-few t f one other i few disjoint)

pub EachLane-moved : (t f one other : ℕ) → one + other ≤ 1
    → EachLane (record {
      is_true = bit_or (t * 2 % 2 ^ 64) one;
      is_false = bit_or (f * 2 % 2 ^ 64) other;
    }) (behind (answer_of_bits one other)
    (λ i. lane i (record { is_true = t; is_false = f })))
EachLane-moved t f one other few zero below =
    rw (moved-first t one (omega arith), moved-first f other (omega arith)) refl
EachLane-moved t f one other few (suc i) below =
    rw (moved-next t one i (omega arith) below, moved-next f other i (omega arith) below) refl
