-- One target, or two halves whose entries are merged.
use Rattle.std.proofs.Common.{◌+◌, ◌≤◌, List, ap, arith, length, length-append, refl}
use Rattle.std.proofs.lemmas.Result.{IfOk-weaker}
use Rattle.cfgx_engine.specs.internal.Index.{Entry, Joins, TellsTarget}
use Rattle.cfgx_engine.proofs.IndexLemmas.{TellsTargets-both, TellsTargets-one, only_target}
use Rattle.cfgx_engine.proofs.resolve.by_facts.+entries_of.Goals as goal

pub returns-then-targets-eq1 : goal.returns-then-targets-eq1
returns-then-targets-eq1 g t c =
    let facts = c.index-targets-0.result in
    rw (only_target c.args.targets.now facts c.if-targets-eq1.true c.index-targets-0.is)
    (IfOk-weaker c.entries.result
    (λ (entries : List Entry). TellsTarget facts c.args.first entries) _
    (λ entries tells. TellsTargets-one facts c.args.first entries tells) c.entries.ensures)

pub returns : goal.returns
returns g t c =
    let front = c.split_at.result.0.now in
    let back = c.split_at.result.1.now in
    let second = c.args.first + length front in
    let whole = c.split_at.ensures.by_index.0 in
    let long = length-append front back in
    let few : second + length back ≤ 64 =
    omega (arith, c.requires, long, ap length whole) in
    rw whole (IfOk-weaker c.merged.result
    (λ (entries : List Entry).
    Joins c.in_ok-front_entries.front_entries c.in_ok-back_entries.back_entries entries) _
    (λ entries joins.
    TellsTargets-both front back c.args.first second _ _ entries refl few
    c.in_ok-front_entries.ensures c.in_ok-back_entries.ensures joins) c.merged.ensures)
