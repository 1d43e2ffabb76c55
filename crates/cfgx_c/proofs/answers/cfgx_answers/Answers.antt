use Rattle.cfgx_c.proofs.answers.cfgx_answers.Goals as goal

pub returns-in-Ok-clause-done : goal.returns-in-Ok-clause-done
returns-in-Ok-clause-done c is =
    let found = rw c.otherwise_of.ensures at c.in-Ok.ensures.ok in (
      found.0,
      found.1,
      (c.in-Ok.found.items, found.2, rw c.as_slice.ensures.value at c.fill_values.ensures),
    )
