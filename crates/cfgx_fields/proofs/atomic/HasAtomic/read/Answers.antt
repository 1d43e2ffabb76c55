use Rattle.std.proofs.Common.{rules, Ok, Err}
use Rattle.cfgx_fields.{specs.HasAtomic.ReadsAtomic, proofs.AtomicLemmas.ReadsAtomic-text}
use Rattle.cfgx_fields.proofs.atomic.HasAtomic.read.Goals as goal

pub returns-in-Some-clause-printed : goal.returns-in-Some-clause-printed
returns-in-Some-clause-printed g c =
    let reads : ReadsAtomic {A = g.row.A.Denot} c.args.text.now (Ok c.in-Some.width) =
    search rules in
    ReadsAtomic-text _ _ reads

pub returns-in_err-new-in-None-clause-printed : goal.returns-in_err-new-in-None-clause-printed
returns-in_err-new-in-None-clause-printed g c =
    let reads : ReadsAtomic c.args.text.now c.from_residual.result = search rules in
    ReadsAtomic-text _ _ reads

pub returns-in_ok-new-in-None-clause-printed : goal.returns-in_ok-new-in-None-clause-printed
returns-in_ok-new-in-None-clause-printed g c =
    let reads : ReadsAtomic c.args.text.now (Err c.into.result) = search rules in
    ReadsAtomic-text _ _ reads
