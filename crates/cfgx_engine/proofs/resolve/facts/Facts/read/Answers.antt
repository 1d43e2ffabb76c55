use Rattle.std.proofs.lemmas.List.{take_all}
use Rattle.std.proofs.lemmas.List.Elements.{All-nil}
use Rattle.std.proofs.lemmas.List.Sorted.{All-permutation}
use Rattle.cfgx_engine.specs.internal.Named.{IsName}
use Rattle.cfgx_engine.specs.internal.ReadsFacts.{accepts}
use Rattle.cfgx_engine.proofs.FactLemmas.{AreFacts-more, AreFacts-none, AreFacts-sorted}
use Rattle.cfgx_engine.proofs.FactLemmas.{ReadsFacts-fails}
use Rattle.cfgx_engine.proofs.resolve.facts.Facts.read.Goals as goal

pub loop-index-init : goal.loop-index-init
loop-index-init g c = rw (c.new-true_names.ensures, c.new-unknown_names.ensures)
    ((All-nil IsName, All-nil IsName), AreFacts-none (accepts c.args.unaskable))

-- each fact before the faulty one is accepted
pub returns-in-Err : goal.returns-in-Err
returns-in-Err g c =
    rw c.at.ensures (ReadsFacts-fails (accepts c.args.unaskable) c.args.facts.now
    c.loop-index.index _ c.loop-index-test.true {A = g.row.A.Denot} c.in-Err.failure
    c.loop-index.invariant.1.each c.in-Err.ensures.err)

pub loop-index-preserved : goal.loop-index-preserved
loop-index-preserved g c = (
  c.in_default.ensures.named,
  AreFacts-more (accepts c.args.unaskable) c.args.facts.now c.loop-index.index _
      c.loop-index-test.true _ _ c.loop-index.invariant.1 c.in_default.ensures.ok,
)

pub invariant_of-result : goal.invariant_of-result
invariant_of-result g c =
    let named = c.loop-index.invariant.0 in (
      (All-permutation IsName _ _ c.sort.ensures.same named.0, c.sort.ensures.sorted),
      (All-permutation IsName _ _ c.sort-2.ensures.same named.1, c.sort-2.ensures.sorted),
    )

-- no fact is left
pub returns : goal.returns
returns g c =
    let named = c.loop-index.invariant.0 in
    rw (← take_all _ _ c.loop-index-test.false)
    (AreFacts-sorted (accepts c.args.unaskable) _ _ _ _ _ named.0 named.1
    c.sort.ensures.same c.sort-2.ensures.same c.loop-index.invariant.1)
