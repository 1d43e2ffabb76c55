-- A `SmallVec` fits in memory, if its allocator is small.
use Rattle.std.proofs.Common.{ℕ, ◌+◌, ◌<◌, ◌≤◌, ◌^◌}
pub use Rattle.std.proofs.Common.{arith, rules}
use prog.Memory.{up}
use Prim.Native.Nat.{max}

-- the size of a `SmallVec` with `n` bytes of elements inline, and an allocator of this alignment
-- and size
abbrev listed : (align size n : ℕ) → ℕ
listed align size n =
    let inline = max 8 (max 8 (max align 1)) in let heap = max 8 inline in
    let both = max (max inline 1) (max (max heap 1) 1) in
    up (max both 1) (up both 0 + up both (max (up inline 1 + up inline (up align n + size))
    (max (up heap 1 + up heap (up align 24 + size)) 1)))

pub room : (align size n : ℕ) → (size ≤ 2 ^ 32) × (align ≤ 2 ^ 32) → n ≤ 2 ^ 32
    → listed align size n < 2 ^ 63
room align size n small few = search rules
