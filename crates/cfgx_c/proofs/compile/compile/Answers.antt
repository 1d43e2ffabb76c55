-- The steps and the predicates are those of the text's one tree.
use Rattle.std.proofs.Common.{◌≡◌, ◌∙◌, ap, arith, length, map, sym}
use Rattle.std.proofs.lemmas.Grind.{common_steps}
use Rattle.std.proofs.lemmas.List.{length-map}
use Rattle.cfgx_grammar.proofs.Answering.{only_tree}
use Rattle.cfgx_syntax.specs.Stripping.{strip, strip_offset}
use Rattle.cfg_expr.specs.Steps.{steps_of}
use Rattle.cfgx_c.specs.{Predicates.c_predicate, Steps.c_step}
use Rattle.cfgx_c.proofs.BufferLemmas.{FillsBoth-room}
use Rattle.cfgx_c.proofs.ReadLemmas.{Compiles-read, stripped_fits}
use Rattle.cfgx_c.proofs.compile.compile.Goals as goal

pub write_predicates-requires-clause-located : goal.write_predicates-requires-clause-located
write_predicates-requires-clause-located c =
    let (read, offset, good) = c.in_ok-condition.ensures.ok in (
      strip c.args.text.now,
      rw read at c.located_predicates-located.ensures,
      rw offset (omega (arith, stripped_fits c.args.text.now)),
    )

-- one buffer has too little room
pub returns-then-step_count-steps-clause-ok : goal.returns-then-step_count-steps-clause-ok
returns-then-step_count-steps-clause-ok c =
    let (read, offset, good) = c.in_ok-condition.ensures.ok in
    let predicates = c.located_predicates-located.result in
    let located = rw read at c.located_predicates-located.ensures in
    let (one, counted) = rw read at c.step_count-step_count.ensures.steps in
    let few = rw read at c.step_count-step_count.ensures.few in
    let show = c_predicate (strip_offset c.args.text.now) in
    let many : c.step_count-step_count.result ≡ length (map c_step (steps_of one.tree)) =
    counted ∙ sym (length-map (steps_of one.tree) c_step) in
    let count : c.left-count.result ≡ length (map show predicates) =
    c.left-count.ensures ∙ sym (length-map predicates show) in (
      good.0,
      rw c.left-count.ensures (Compiles-read c.args.text.now predicates located one _ counted few
          c.args.steps.now c.args.steps.now c.args.predicates.now c.args.predicates.now
          (let either = c.then-step_count-steps.either in grind (arith, common_steps))),
    )

-- both buffers are filled
pub returns-clause-ok : goal.returns-clause-ok
returns-clause-ok c =
    let (read, offset, good) = c.in_ok-condition.ensures.ok in
    let predicates = c.located_predicates-located.result in
    let located = rw read at c.located_predicates-located.ensures in
    let counted = rw read at c.step_count-step_count.ensures.steps in
    let few = rw read at c.step_count-step_count.ensures.few in
    let (one, wrote) = rw read at c.write_steps.ensures in
    let show = c_predicate (strip_offset c.args.text.now) in
    let steps = map c_step (steps_of one.tree) in
    let same = counted.1 ∙ ap (λ tree. length (steps_of tree))
    (only_tree one counted.0.tree counted.0.reads.has) in
    let many : c.step_count-step_count.result ≡ length steps =
    same ∙ sym (length-map (steps_of one.tree) c_step) in
    let count : c.left-count.result ≡ length (map show predicates) =
    c.left-count.ensures ∙ sym (length-map predicates show) in
    let shown = rw (offset, ← c.left-count.ensures, count) at
    c.write_predicates.ensures in (
      good.0,
      rw c.left-count.ensures (Compiles-read c.args.text.now predicates located one _ same few
          c.args.steps.now _ c.args.predicates.now _ (rw (wrote, many, shown)
          (FillsBoth-room steps c.args.steps.now (map show predicates) c.args.predicates.now
          (omega (arith, many)) (omega (arith, count))))),
    )
