-- What the slots of answers take in memory fits, where values are small.
use Rattle.std.proofs.Common.{ℕ, ◌+◌, ◌*◌, ◌<◌, ◌≤◌, ◌^◌, arith}
use prog.Memory.{up}
use Prim.Native.Nat.{max}

-- their size, with 36 of them inline, for values of that alignment and size
abbrev slots : (align size : ℕ) → ℕ
slots align size =
    let one = max 1 (max (max align 1) (max (max align 1) 1)) in
    let value = up align 1 + size in
    let slot = up one (max 1 (max value (max value 1))) in
    let row = max one 1 in let inline = max row 8 in let all = max (max inline 1) 8 in
    let rows = up row 0 + up row (up one 0 + 36 * slot) in
    up (max all 1) (up all 0 + up all (max (up inline 1 + up inline (up 8 (up 8 rows + 8) + 8)) 40))

pub room : (align size : ℕ) → (size ≤ 2 ^ 32) × (align ≤ 2 ^ 32) → slots align size < 2 ^ 63
room align size small = grind arith
