use Rattle.std.proofs.Common.{◌≡◌, ◌++◌, ℕ, All, List, drop, length, take}
use Rattle.std.specs.List.{AllZip}
use Rattle.cfgx_engine.specs.Facts.{FactTexts, IsRustcFact, NameAlike, texts_of}
use Rattle.cfgx_c.specs.internal.Refusals.{views}
use Rattle.cfgx_c.specs.Ends.{AreEndsFrom, parts, parts_from}
use Rattle.cfgx_c.proofs.reading.read_targets.Given as goal

-- the facts of the targets so far were read
pub record Invariant (ends left : List ℕ) (begin : ℕ) (facts : List (List ℕ))
    (targets : List FactTexts) : Type 0 where
  pub left_are : AreEndsFrom begin left (length facts)
  pub good : All IsRustcFact (take begin facts)
  pub groups : List (List (List ℕ))
  pub whole : parts ends facts ≡ groups ++ parts_from begin left facts
  pub alike : AllZip (λ facts read. NameAlike read (texts_of facts)) groups targets

abbrev pub invariant-loop-end : goal.invariant-loop-end
invariant-loop-end l = Invariant l.target_ends (drop l.end-index l.target_ends) l.begin
    (views l.facts) l.targets.items
