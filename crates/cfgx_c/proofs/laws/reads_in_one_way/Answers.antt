use Rattle.std.proofs.Common.{Err}
use Rattle.cfgx_c.proofs.CallLemmas.{no_utf8}
use Rattle.cfgx_c.proofs.laws.reads_in_one_way.Goals as goal

pub returns-clause-no_fault : goal.returns-clause-no_fault
returns-clause-no_fault c text fault is (utf8, (found, reads, same)) =
    absurd (let same = is.1.reads.only (Err found) reads.has in cc)

pub returns-clause-fault_utf8 : goal.returns-clause-fault_utf8
returns-clause-fault_utf8 c text fault other has = no_utf8 text other has.0

pub returns-clause-utf8 : goal.returns-clause-utf8
returns-clause-utf8 c = no_utf8

pub returns-clause-no_fact_fault : goal.returns-clause-no_fact_fault
returns-clause-no_fact_fault c fact fault is has = has.1.0 is.1

pub returns-clause-fact_fault_utf8 : goal.returns-clause-fact_fault_utf8
returns-clause-fact_fault_utf8 c fact fault other has = no_utf8 fact other has.0
