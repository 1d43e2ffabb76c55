-- Sixty-four answers that may be unknown, side by side in two planes of 64 bits.
-- Source: Kleene's strong logic (see Logic.antt), lane by lane. Bit 0 is the lowest.
use Rattle.std.specs.Prelude.{◌≡◌, ℕ, zero, suc, ◌-◌, ◌<◌, ◌^◌, ◌==◌, nat_eq, Bool, true, false}
use Rattle.std.specs.Prelude.{Option, Some, None}
use Rattle.std.specs.Prelude.{bit_and, bit_or, if◌then◌else◌}
use Rattle.std.specs.{Int.bit_at, Ordering.on, Ordering.eq_of_both}

-- the lanes that are true, and the lanes that are false, as bits
pub record Planes : Type 0 where
  pub is_true : ℕ
  pub is_false : ℕ

-- whether both planes are the same
abbrev pub planes_eq : Planes → Planes → Bool
planes_eq = eq_of_both (on (λ p. p.is_true) nat_eq) (on (λ p. p.is_false) nat_eq)

-- no lane is both
abbrev pub AreDisjoint : ℕ → ℕ → Type 0
AreDisjoint is_true is_false = bit_and is_true is_false ≡ 0

abbrev pub IsDisjoint : Planes → Type 0
IsDisjoint planes = AreDisjoint planes.is_true planes.is_false

-- the answer that two bits stand for: true, false, or unknown if neither is set
abbrev pub answer_of_bits : ℕ → ℕ → Option Bool
answer_of_bits is_true is_false =
    if is_true == 1 then Some true else (if is_false == 1 then Some false else None)

-- the answer in lane i
abbrev pub lane : ℕ → Planes → Option Bool
lane i planes = answer_of_bits (bit_at planes.is_true i) (bit_at planes.is_false i)

-- each lane has the answer that is given for its number
abbrev pub EachLane : Planes → (ℕ → Option Bool) → Type 0
EachLane planes answers = (i : ℕ) → i < 64 → lane i planes ≡ answers i

-- this answer for the number 0, and the others for the numbers from 1 on
abbrev pub behind : Option Bool → (ℕ → Option Bool) → ℕ → Option Bool
behind answer others zero = answer
behind answer others (suc i) = others i

abbrev pub planes_top : Planes
planes_top = record { is_true = 2 ^ 64 - 1; is_false = 0 }

abbrev pub planes_bottom : Planes
planes_bottom = record { is_true = 0; is_false = 2 ^ 64 - 1 }

abbrev pub planes_and : Planes → Planes → Planes
planes_and one other = record {
  is_true = bit_and one.is_true other.is_true;
  is_false = bit_or one.is_false other.is_false;
}

abbrev pub planes_or : Planes → Planes → Planes
planes_or one other = record {
  is_true = bit_or one.is_true other.is_true;
  is_false = bit_and one.is_false other.is_false;
}

abbrev pub planes_not : Planes → Planes
planes_not planes = record { is_true = planes.is_false; is_false = planes.is_true }
