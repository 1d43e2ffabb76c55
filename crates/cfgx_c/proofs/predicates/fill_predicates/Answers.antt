-- The predicates are those of the text's one tree, with spans in the stripped text.
use Rattle.std.proofs.Common.{arith, map}
use Rattle.std.proofs.lemmas.Grind.{common_steps}
use Rattle.cfgx_syntax.specs.Stripping.{strip, strip_offset}
use Rattle.cfgx_c.specs.Predicates.{c_predicate}
use Rattle.cfgx_c.proofs.ReadLemmas.{Lists-read, stripped_fits}
use Rattle.cfgx_c.proofs.predicates.fill_predicates.Goals as goal

pub write_predicates-requires-clause-located : goal.write_predicates-requires-clause-located
write_predicates-requires-clause-located c =
    let (read, offset, good) = c.in_ok-condition.ensures.ok in (
      strip c.args.text.now,
      rw read at c.located_predicates-predicates.ensures,
      rw offset (omega (arith, stripped_fits c.args.text.now)),
    )

-- there is too little room
pub returns-then-needed-buffer-clause-ok : goal.returns-then-needed-buffer-clause-ok
returns-then-needed-buffer-clause-ok c =
    let (read, offset, good) = c.in_ok-condition.ensures.ok in
    let predicates = c.located_predicates-predicates.result in
    let located = rw read at c.located_predicates-predicates.ensures in (
      good.0,
      map (c_predicate (strip_offset c.args.text.now)) predicates,
      Lists-read c.args.text.now predicates located,
      grind (arith, common_steps),
    )

-- there is room
pub returns-clause-ok : goal.returns-clause-ok
returns-clause-ok c =
    let (read, offset, good) = c.in_ok-condition.ensures.ok in
    let predicates = c.located_predicates-predicates.result in
    let located = rw read at c.located_predicates-predicates.ensures in
    let wrote = rw (offset, ← c.left-needed.ensures) at c.write_predicates.ensures in (
      good.0,
      map (c_predicate (strip_offset c.args.text.now)) predicates,
      Lists-read c.args.text.now predicates located,
      grind (arith, common_steps),
    )
