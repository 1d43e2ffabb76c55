-- The numbers of answers and of predicates differ.
use Rattle.std.proofs.Common.{ap, arith, length}
use Rattle.cfgx_c.proofs.reading.read_answered.Goals as goal

pub returns-then-left-answers-clause-other_count : goal.returns-then-left-answers-clause-other_count
returns-then-left-answers-clause-other_count c is =
    let read = c.in_ok-condition.ensures.ok in
    let asks = c.predicates.ensures.asked in
    rw (← read.0) (
      asks.0,
      λ same. omega (arith, c.if-left-answers.true, c.left.ensures, ap length asks.1, same),
    )
