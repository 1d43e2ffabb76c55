use Rattle.std.proofs.Common.{◌≡◌, ◌++◌, ℕ, All, List, drop, length}
use Rattle.std.specs.Str.{IsCharBoundary, IsUtf8}
use Rattle.cfgx_c.specs.{Ends.{AreEndsFrom, parts, parts_from}, internal.Refusals.views}
use Rattle.cfgx_c.proofs.ends.texts.Given as goal

-- the parts so far are UTF-8, and those that are left begin where the front can be cut
pub record Invariant (ends bytes front left : List ℕ) (begin : ℕ) (found : List (List ℕ)) : Type 0
  where
    pub left_are : AreEndsFrom begin left (length bytes)
    pub whole : parts ends bytes ≡ found ++ parts_from begin left bytes
    pub utf8 : All IsUtf8 found
    pub cut : IsCharBoundary front begin

abbrev pub invariant-loop-end : goal.invariant-loop-end
invariant-loop-end l = Invariant l.ends l.bytes l.front (drop l.end-index l.ends) l.begin
    (views l.texts.items)
