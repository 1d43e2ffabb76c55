use Rattle.std.proofs.Common.{◌∙◌, ap, refl, append_assoc, Err, Ok}
use Rattle.cfgx_syntax.specs.Error.{failure_of}
use Rattle.cfgx_engine.proofs.OutputLemmas.{Fails-parse, shown_fault}
use Rattle.cfgx_engine.proofs.engine.sections.SectionPrinter.push_line.Goals as goal

pub returns-in_ok-push_section-in-Ok-clause-ok
    : goal.returns-in_ok-push_section-in-Ok-clause-ok
returns-in_ok-push_section-in-Ok-clause-ok g c =
    let read = rw c.in-Ok.ensures.answers.0 at c.in_ok-push_section-in-Ok.ensures.adds in
    rw c.in-Section.is (
      _,
      (Ok read.0.tree, read.0.reads, refl),
      read.1 ∙ append_assoc c.args.self.now.printed.items c.in-Section.name.now _,
    )

pub returns-in_ok-message-in-Err-clause-err : goal.returns-in_ok-message-in-Err-clause-err
returns-in_ok-message-in-Err-clause-err g c =
    let fails = Fails-parse {A = g.row.A.Denot} c.in-Section.condition.now _
    c.in-Err.ensures.answers in
    let one = shown_fault (failure_of {A = g.row.A.Denot} c.in-Err.failure) fails
    c.in_ok-message-in-Err.ensures in
    rw c.in-Section.is (Err one.0, one.1, ap Err one.2)
