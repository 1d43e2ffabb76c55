-- Both fillings fit, or there is too little room.
use Rattle.cfgx_c.proofs.DecideLemmas.{Fills-both, Fills-none}
use Rattle.cfgx_c.proofs.decide.fill_fillings.Goals as goal

pub returns-then-needed-buffer-clause-ok : goal.returns-then-needed-buffer-clause-ok
returns-then-needed-buffer-clause-ok c one = Fills-none c.args.condition.now c.args.answers.now
    c.requires one c.args.buffer.now c.if-needed-buffer.true

pub returns-clause-ok : goal.returns-clause-ok
returns-clause-ok c one =
    let wrote = rw (c.as_slice.ensures, c.in_ok-answers.ensures.answers)
    at c.in_ok-write_fillings.ensures.fillings in
    rw c.split_at_mut-if_true.ensures.back (Fills-both c.args.condition.now c.args.answers.now
    c.requires one c.args.buffer.now c.write_fillings.new.if_true c.write_fillings.new.if_false
    wrote c.if-needed-buffer.false)
