use Rattle.cfgx_targets.proofs.OrderLemmas.{binary_search-answers}
use Rattle.cfgx_targets.proofs.list.SortedList.has_member.Goals as goal

pub returns : goal.returns
returns g c =
    let search = c.binary_search.ensures in
    rw (c.is_ok.ensures.value, ← c.as_slice.ensures.members)
    (binary_search-answers g.met.T.Ord.total g.met.T.Member.equal_is_same _ _ _
    c.as_slice.ensures.sorted search.bound search.position)
