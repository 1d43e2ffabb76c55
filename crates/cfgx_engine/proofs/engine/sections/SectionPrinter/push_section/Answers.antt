-- The decision stands behind the name.
use Rattle.std.proofs.{Common.map, lemmas.Result.on_ok_weaker}
use Rattle.cfgx_grammar.specs.Tree.{asked}
use Rattle.cfgx_engine.{specs.Output.answer_on, proofs.SectionLemmas.verdict_lines-decision}
use Rattle.cfgx_engine.proofs.engine.sections.SectionPrinter.push_section.Goals as goal

pub returns-clause-adds : goal.returns-clause-adds
returns-clause-adds g c =
    let decided = c.in_ok-decide.ensures.decision in
    let tree = decided.0.tree in
    let answers = map (answer_on {A = g.row.A.Denot} c.args.self.now.target.now) (asked tree) in
    let is = verdict_lines-decision {A = g.row.A.Denot} tree answers c.decide.new.self.decision
    decided.1.is in
    let name_is = c.as_bytes.ensures.value in
    on_ok_weaker c.push_decision.result (λ added.
    (decided.0, rw (c.in_ok-extend_from_slice.ensures.items, name_is, is) at added))
    c.push_decision.ensures
