use Rattle.std.{proofs.Common.◌∙◌, specs.Ordering.ordering_then}
use Rattle.cfgx_targets.proofs.TargetLemmas.{then-chain}
use Rattle.cfgx_targets.proofs.info.comparing.TargetInfoOrd.cmp.Goals as goal

pub returns : goal.returns
returns g c =
    then-chain _ _ _ _ _ _ _ _ _ _ _
    c.then.ensures c.then-2.ensures c.then-3.ensures c.then-4.ensures c.then-5.ensures
    c.then-6.ensures c.then-7.ensures c.then-8.ensures c.then-9.ensures c.then-10.ensures
    ∙ (λ i. ordering_then (c.cmp.ensures i) (ordering_then (c.cmp-2.ensures i)
    (ordering_then (c.cmp-3.ensures i) (ordering_then (c.cmp-4.ensures i)
    (ordering_then (c.cmp-5.ensures i) (ordering_then (c.cmp-6.ensures i)
    (ordering_then (c.cmp-7.ensures i) (ordering_then (c.cmp-8.ensures i)
    (ordering_then (c.cmp-9.ensures i) (ordering_then (c.cmp-10.ensures i)
    (c.cmp-11.ensures i)))))))))))
