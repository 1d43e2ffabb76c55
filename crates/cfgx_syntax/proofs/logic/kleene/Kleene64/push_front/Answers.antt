-- At most one of the two bits that come into lane 0 is set.
use Rattle.std.proofs.Common.{◌≡◌, ◌+◌, ◌≤◌, arith}
use Rattle.cfgx_syntax.specs.Kleene.{answer_of_bits}
use Rattle.cfgx_syntax.proofs.LaneLemmas.{AreDisjoint-moved, EachLane-moved}
use Rattle.cfgx_syntax.proofs.logic.kleene.Kleene64.push_front.Goals as goal

pub invariant_of-result : goal.invariant_of-result
invariant_of-result c =
    let few : c.from.result + c.from-2.result ≤ 1 = grind arith in
    AreDisjoint-moved _ _ _ _ few c.self.invariant

pub returns : goal.returns
returns c =
    let few : c.from.result + c.from-2.result ≤ 1 = grind arith in
    let known : answer_of_bits c.from.result c.from-2.result ≡ c.args.answer = grind arith in
    let moved = EachLane-moved c.self.inside.is_true c.self.inside.is_false _ _ few in
    rw (← c.self.view_is) (rw known at moved)
