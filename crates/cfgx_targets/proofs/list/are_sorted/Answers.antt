use Rattle.cfgx_targets.proofs.OrderLemmas.{is_sorted-answers}
use Rattle.cfgx_targets.proofs.list.are_sorted.Goals as goal

pub returns : goal.returns
returns g c =
    is_sorted-answers g.met.T.Ord.total g.met.T.Ord.matches_partial_cmp _ _
    c.is_sorted.ensures.cases
