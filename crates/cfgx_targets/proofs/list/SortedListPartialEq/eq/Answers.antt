use Rattle.std.proofs.Common.{◌≡◌, rules}
use Rattle.std.specs.Cmp.Lexicographic.{pointwise}
use Rattle.cfgx_targets.proofs.OrderLemmas.{lists-made_same, lists-same}
use Rattle.cfgx_targets.proofs.list.SortedListPartialEq.eq.Goals as goal

pub returns : goal.returns
returns g c =
    let order = g.met.T.Ord.total in
    let same = g.met.T.Member.equal_is_same in
    let ties = g.met.T.Ord.matches_eq in
    let value : c.eq.result ≡ pointwise g.T.PartialEq.eq c.args.self.now c.args.other.now =
    search rules in
    record {
      value = value;
      same = rw value (lists-same order same ties _ _);
      rearranged = rw value (lists-made_same order same ties _ _);
    }
