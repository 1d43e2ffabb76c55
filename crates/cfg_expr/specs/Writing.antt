-- How much of some bytes a writer has taken.
-- Source: the documentation of `std::io::Write::write`.
use Rattle.std.specs.Prelude.{◌≡◌, ℕ, List, ◌++◌, Option, Result, Ok, Err}
use Rattle.std.specs.Io.KnownBytes.{Appends}

-- The writer has taken `bytes` up to where `left` begins. This says nothing of a writer whose bytes
-- are not known.
pub record Takes (old new : Option (List ℕ)) (bytes left : List ℕ) : Type 0 where
  pub front : List ℕ
  pub whole : front ++ left ≡ bytes
  pub taken : Appends old new front

-- the writer has taken a prefix of `bytes`, which may be empty or all of them
abbrev pub TakesFront : Option (List ℕ) → Option (List ℕ) → List ℕ → Type 0
TakesFront old new bytes = (left : List ℕ) × Takes old new bytes left

-- the writer has taken all bytes, or with an error a prefix
abbrev pub Writes : {E : Type 0} → Option (List ℕ) → Option (List ℕ) → Result (Unit {0}) E
    → List ℕ → Type 0
Writes old new (Ok done) bytes = Appends old new bytes
Writes old new (Err error) bytes = TakesFront old new bytes
