use Rattle.std.proofs.Common.{of_calls, rules}
use Rattle.std.proofs.lemmas.Fn.{always_returns_same}
use Rattle.std.proofs.lemmas.List.Sorted.{All-permutation, IsPermutation-map, ranks_by}
use Rattle.cfgx_engine.specs.internal.Named.{IsInside, code_at}
use Rattle.cfgx_engine.proofs.NamedLemmas.{code_total, sorted_codes}
use Rattle.cfgx_engine.proofs.resolve.named.NamedPredicates.sort.Goals as goal

pub invariant_of-self : goal.invariant_of-self
invariant_of-self g c =
    All-permutation (IsInside _) _ _ c.sort_unstable_by.ensures.permutation c.self.invariant

pub returns-clause-same : goal.returns-clause-same
returns-clause-same g c = rw (← c.self.view_is) (IsPermutation-map (code_at _) _ _
    c.sort_unstable_by.ensures.permutation)

-- the closure compares the codes
pub returns-clause-sorted : goal.returns-clause-sorted
returns-clause-sorted g c =
    let key = code_at c.as_slice-buffer.result.now in
    rw (← c.as_slice-buffer.ensures.value)
    (sorted_codes key _ (c.sort_unstable_by.ensures.sorted _ (ranks_by code_total key)
    (always_returns_same _ _ _ (λ a r f' called. search (rules, of_calls)))))
