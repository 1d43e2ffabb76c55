use Rattle.std.proofs.Common.{◌≡◌, arith, sym}
use Rattle.cfgx_examples.proofs.Written.{cut-pushed, cut-full}
use Rattle.cfgx_examples.proofs.evaluating.terms.Term.push.Goals as goal

pub returns-then-self-lt-ROOM : goal.returns-then-self-lt-ROOM
returns-then-self-lt-ROOM c =
    rw (sym c.self.view_is) (cut-pushed _ _ _ c.if-self-lt-ROOM.true c.self.told)

pub returns-else-self-lt-ROOM : goal.returns-else-self-lt-ROOM
returns-else-self-lt-ROOM c =
    let full : c.self.inside.length ≡ 64 =
    omega (arith, c.self.invariant, c.if-self-lt-ROOM.false) in
    rw (sym c.self.view_is) (cut-full _ _ _ full c.self.told)
