-- What is found after the white space has the same place in the whole text.
use Rattle.std.proofs.{Common.{arith, rules}, Math.Nat.sub-zero, lemmas.Grind.common_steps}
use Rattle.cfgx_syntax.{specs.Error.cause_of, specs.Lexer.token_of, proofs.Scanning.state_at}
use Rattle.cfgx_syntax.proofs.Scanning.{IsAfter-trimmed, Stands-found, CanBeCut-found, Ending-found}
use Rattle.cfgx_syntax.proofs.lexer.LexerIterator.next.Goals as goal

pub returns-in-Ok-clause-steps : goal.returns-in-Ok-clause-steps
returns-in-Ok-clause-steps g c =
    let trimmed = c.trimmed-class.ensures.trimmed in
    let beyond = IsAfter-trimmed _ _ _ c.self.invariant.0 trimmed in
    let token = token_of c.in-Ok.token in
    let begins = c.in-Ok.ensures in
    let left = c.range_from-self-inside.ensures.len in
    rw (← c.self.view_is) (record {
      stands = Stands-found _ _ _ beyond token c.in-Ok.len begins;
      cut = CanBeCut-found _ _ _ beyond token c.in-Ok.len begins;
      goes_on = state_at _ _ _ (omega (arith, left, begins.inside, beyond.inside, trimmed.4));
    })

pub returns-in-Some-clause-steps : goal.returns-in-Some-clause-steps
returns-in-Some-clause-steps g c =
    let beyond = IsAfter-trimmed _ _ _ c.self.invariant.0 c.trimmed-class.ensures.trimmed in
    let cause = cause_of c.in-Err.reason in
    let found = Ending-found _ _ _ beyond cause c.in-Err.len (search rules) c.in-Err.ensures in
    rw (← c.self.view_is) (record {
      ending = found.0;
      ends = found.1;
      fault = _;
      refused = found.2;
      fails = c.of.ensures;
      is_over = state_at _ _ _ (sub-zero _);
    })

pub invariant_of-self : goal.invariant_of-self
invariant_of-self g c = grind (arith, common_steps)

pub invariant_of-self-in-Ok : goal.invariant_of-self-in-Ok
invariant_of-self-in-Ok g c = grind (arith, common_steps)

pub invariant_of-self-in-Err : goal.invariant_of-self-in-Err
invariant_of-self-in-Err g c = grind (arith, common_steps)
