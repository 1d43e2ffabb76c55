use Rattle.std.proofs.Common.{of_calls, rules}
use Rattle.std.proofs.lemmas.Fn.{always_returns_same}
use Rattle.cfg_expr.specs.Equality.{code_cmp, texts_code}
use Rattle.cfgx_engine.specs.internal.Named.{code_at}
use Rattle.cfgx_engine.proofs.NamedLemmas.{found}
use Rattle.cfgx_engine.proofs.resolve.named.NamedPredicates.finds.Goals as goal

-- the closure compares each code with that of the predicate
pub returns : goal.returns
returns g c =
    let key = code_at c.as_slice-buffer.result.now in
    let asked = texts_code c.args.asked.now in
    let searched = c.binary_search_by-found.ensures in
    rw (
      ← c.self.view_is,
      ← c.as_slice-buffer.ensures.value,
      ← c.deref.ensures.value,
      c.is_ok.ensures.value,
    ) (found key _ asked _ searched.bound
    (searched.position (λ named. code_cmp (key named) asked)
    (always_returns_same _ _ _ (λ a r f' called. search (rules, of_calls))))
    (rw (← c.self.view_is, ← c.as_slice-buffer.ensures.value, ← c.deref.ensures.value)
    at c.requires))
