-- Where spans lie. A span has the place of its first byte and the place behind its last byte; an
-- empty span has one place twice.
use Rattle.std.specs.Prelude.{◌≤◌, ℕ, List, length}

-- the bytes `start..end` lie in the text: start ≤ end ≤ length of the text
pub record LiesIn (text : List ℕ) (start end : ℕ) : Type 0 where
  pub ordered : start ≤ end
  pub inside : end ≤ length text
