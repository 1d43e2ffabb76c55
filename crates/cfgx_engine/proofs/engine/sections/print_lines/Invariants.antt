use Rattle.std.proofs.Common.{◌≡◌}
use Rattle.cfgx_engine.{specs.Output.answer_on, specs.Sections.lines_of, proofs.SectionLemmas.Left}
use Rattle.cfgx_engine.proofs.engine.sections.print_lines.Given as goal

abbrev pub invariant-loop-line : goal.invariant-loop-line
invariant-loop-line g l = record {
  same : l.fn.target ≡ l.printer.target.now;
  left : Left (answer_on l.printer.target.now) (lines_of l.fn.text) l.line-iterator l.number
      l.printer.printed.items;
}
