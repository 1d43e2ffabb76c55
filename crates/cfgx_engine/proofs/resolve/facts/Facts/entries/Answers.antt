-- What is named as true is merged with what is named as unknown.
use Rattle.std.proofs.lemmas.Result.{IfOk-weaker}
use Rattle.cfgx_syntax.specs.Kleene.{lane}
use Rattle.cfgx_engine.specs.internal.Index.{Entry, Joins, TellsTarget}
use Rattle.std.proofs.Common.{List}
use Rattle.cfgx_engine.specs.internal.Named.{facts_in}
use Rattle.cfgx_engine.proofs.IndexLemmas.{TellsTarget-both}
use Rattle.cfgx_engine.proofs.resolve.facts.Facts.entries.Goals as goal

pub returns : goal.returns
returns g c =
    let true_ones = c.in_ok-true_ones.true_ones in
    let unknown_ones = c.in_ok-unknown_ones.unknown_ones in
    let facts = facts_in c.self.inside.true_names c.self.inside.unknown_names in
    rw (← c.self.view_is) (IfOk-weaker c.merged.result
    (λ (entries : List Entry). Joins true_ones unknown_ones entries)
    (λ (entries : List Entry). TellsTarget facts c.args.lane entries) (λ entries joins.
    TellsTarget-both _ _ c.args.lane (λ i. lane i c.one_lane.result)
    (λ i. lane i c.one_lane-2.result) true_ones unknown_ones entries c.requires
    c.self.invariant.0.0 c.self.invariant.1.0 c.one_lane.ensures c.one_lane-2.ensures
    c.in_ok-true_ones.ensures c.in_ok-unknown_ones.ensures joins) c.merged.ensures)
