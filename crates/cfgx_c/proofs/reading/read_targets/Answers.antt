use Rattle.std.proofs.Common.{◌∙◌, ◌++◌, ◌∷◌, ◌≤◌, [], append_assoc, append-nil, arith}
use Rattle.std.proofs.Common.{get_or, length, rules, sym, take}
use Rattle.std.specs.List.{slice_range}
use Rattle.std.proofs.lemmas.List.{drop_all, length-map, take_all}
use Rattle.std.proofs.lemmas.{List.Elements.All-append, Result.err_from_is_err_and}
use Rattle.std.proofs.lemmas.Slice.Zip.{all_zipped_more}
use Rattle.cfgx_engine.specs.Facts.{IsRustcFact}
use Rattle.cfgx_c.specs.internal.Refusals.{views}
use Rattle.cfgx_c.proofs.EndsLemmas.{begin-le, next_end, next_part}
use Rattle.cfgx_c.proofs.RefusalLemmas.{IsAbout-piece, take-range, views-range}
use Rattle.cfgx_c.proofs.reading.read_targets.Goals as goal

pub offset_bounds-facts-begin : goal.offset_bounds-facts-begin
offset_bounds-facts-begin c =
    let next = next_end _ _ _ _ c.loop-end-test.true c.loop-end.invariant.left_are in
    let end = begin-le _ _ _ next.1 in
    let all = length-map c.args.facts.now (λ text. text.now) in
    let within : c.loop-end.begin ≤ length c.args.facts.now = omega (arith, next.0, end, all) in
    search rules

pub slice_bounds-read_facts-end : goal.slice_bounds-read_facts-end
slice_bounds-read_facts-end c =
    let next = next_end _ _ _ _ c.loop-end-test.true c.loop-end.invariant.left_are in
    let end = begin-le _ _ _ next.1 in
    let all = length-map c.args.facts.now (λ text. text.now) in
    let within : get_or c.args.target_ends.now c.loop-end.end-index 0 ≤ length c.args.facts.now =
    omega (arith, end, all) in
    search rules

-- the first faulty fact of the target is that of all
pub returns-in_err-read-clause-err : goal.returns-in_err-read-clause-err
returns-in_err-read-clause-err c =
    let p = err_from_is_err_and
    c.from_residual-in_err-read.result c.from_residual-in_err-read.ensures.1 in
    let invariant = c.loop-end.invariant in
    let next = next_end _ _ _ _ c.loop-end-test.true invariant.left_are in
    rw (p.1, p.2) (IsAbout-piece (views c.args.facts.now) c.loop-end.begin _ _ next.0
    invariant.good (rw views-range at c.in_err-read.ensures.err))

-- the facts of one target more
pub loop-end-preserved : goal.loop-end-preserved
loop-end-preserved c =
    let invariant = c.loop-end.invariant in
    let facts = views c.args.facts.now in
    let begin = c.loop-end.begin in
    let end = get_or c.args.target_ends.now c.loop-end.end-index 0 in
    let next = next_end _ _ _ _ c.loop-end-test.true invariant.left_are in
    let read = rw views-range at c.in_ok-read.ensures.ok in
    record {
      left_are = next.1;
      good = rw (take-range facts begin end next.0)
          (All-append IsRustcFact (take begin facts) (slice_range facts begin end) invariant.good
          read.0);
      groups = invariant.groups ++ slice_range facts begin end ∷ [];
      whole = next_part _ _ _ facts invariant.groups c.loop-end-test.true invariant.whole
          ∙ sym (append_assoc invariant.groups (slice_range facts begin end ∷ []) _);
      alike = rw c.in_ok-push.ensures.items
          (all_zipped_more _ invariant.groups c.loop-end.targets.items _ _ invariant.alike read.1);
    }

-- no target is left
pub returns-clause-ok : goal.returns-clause-ok
returns-clause-ok c =
    let invariant = c.loop-end.invariant in
    let none = drop_all _ c.args.target_ends.now c.loop-end-test.false in
    let ends = rw none at invariant.left_are in
    let whole = rw (none, append-nil) at invariant.whole in (
      rw (take_all c.loop-end.begin (views c.args.facts.now) (omega (arith, ends)))
          at invariant.good,
      rw whole invariant.alike,
    )
