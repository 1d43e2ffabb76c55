-- Streams that count their failed calls, and what contracts see of their bytes.
-- Source of the rules for one call: the documentation of `std::io::Read::read`,
-- `std::io::Write::write` and `flush`.
use Rattle.std.specs.Prelude.{ℕ, List, length, ◌==◌, ◌&&◌, nat_lt}
use Rattle.std.specs.Prelude.{Result, Ok, Err, if◌then◌else◌}
pub use Rattle.cfg_expr.specs.Writing.{Takes, TakesFront}

-- 1 if a call with this result failed, else 0: an error is a failure
abbrev pub failures_of : {T E : Type 0} → Result T E → ℕ
failures_of (Ok _) = 0
failures_of (Err _) = 1

-- 1 if a `write` of these bytes with this result failed, else 0: an error is a failure, and so is
-- the length 0 if there are bytes
abbrev pub write_failures : {E : Type 0} → Result ℕ E → List ℕ → ℕ
write_failures (Ok taken) bytes = if taken == 0 && nat_lt 0 (length bytes) then 1 else 0
write_failures (Err _) bytes = 1

-- what contracts see of a `Counted`: the stream, and the number of calls that failed
pub record Counting (S : Type 0) : Type 0 where
  pub stream : S
  pub failures : ℕ
