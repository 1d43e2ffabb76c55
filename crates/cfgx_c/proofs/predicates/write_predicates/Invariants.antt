-- The predicates so far were written, and the text can be cut at the spans of those that are left.
use Rattle.std.proofs.Common.{◌≡◌, ◌+◌, ◌<◌, ◌^◌, ◌++◌, ℕ, List, drop, length, map}
use Rattle.std.specs.List.{AllByRecursion}
use Rattle.cfgx_parser.specs.Located.{HasCut}
use Rattle.cfgx_parser.specs.declared.located.LocatedPredicate.{LocatedPredicate}
use Rattle.cfgx_c.specs.Predicates.{c_predicate}
use Rattle.cfgx_c.specs.declared.predicates.CfgxPredicate.{CfgxPredicate}
use Rattle.cfgx_c.proofs.predicates.write_predicates.Given as goal

pub record Invariant (all left : List LocatedPredicate) (offset written : ℕ)
    (old buffer : List CfgxPredicate) : Type 0 where
  pub front : List LocatedPredicate
  pub whole : front ++ left ≡ all
  pub count : written ≡ length front
  pub shown : buffer ≡ map (c_predicate offset) front ++ drop written old
  pub text : List ℕ
  pub fits : length text + offset < 2 ^ 64
  pub cuts : AllByRecursion (HasCut text) left

abbrev pub invariant-loop-predicate : goal.invariant-loop-predicate
invariant-loop-predicate l = Invariant l.initial.predicate-iterator l.predicate-iterator l.offset
    l.written l.initial.buffer l.buffer
