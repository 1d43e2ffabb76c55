-- The answers that are left give the rest of the filling, and there is room for it.
use Rattle.std.proofs.Common.{◌≡◌, ◌<◌, ◌+◌, ◌++◌, ℕ, Bool, List, Option, drop, length, map}
use Rattle.std.specs.List.{AllByRecursion}
use Rattle.cfg_expr.specs.{Filling.truth_byte, nodes.Parity.filled_at}
use Rattle.cfg_expr.proofs.expr.filling.write_filling.Given as goal

pub record Invariant (negated : List Bool) (filling : List Bool) (fill : Bool)
    (places : List ℕ) (answers : List (Option Bool)) (written : ℕ) (old buffer : List ℕ)
    : Type 0 where
  pub count : length places ≡ length answers
  pub inside : AllByRecursion (λ place. place < length negated) places
  pub room : written + length places ≡ length old
  pub front : List Bool
  pub whole : front ++ filled_at negated places answers fill ≡ filling
  pub written_is : written ≡ length front
  pub shown : buffer ≡ map truth_byte front ++ drop written old

abbrev pub invariant-loop-place : goal.invariant-loop-place
invariant-loop-place l = Invariant l.negated (filled_at l.negated l.places l.answers l.fill) l.fill
    l.place-iterator.a.rest.now l.place-iterator.b.rest.now l.written l.initial.buffer l.buffer
