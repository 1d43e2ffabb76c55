use Rattle.std.proofs.{Common.◌∙◌, Common.sym, Common.IsPermutation, iter.SoFar.exit_by}
use Rattle.cfgx_targets.proofs.list.sorted.Goals as goal

pub returns : goal.returns
returns g c =
    let run = exit_by g.I.Iterator.next_gives (c.loop-item.yielded, c.loop-item.yielded_by) _
    c.in-None.ensures.steps in
    let same = run.3.0 ∙ sym c.loop-item.invariant in
    let rearranged : IsPermutation run.0.items c.sort_unstable.new.self.items =
    rw same c.sort_unstable.ensures.permutation in
    let sorted = c.sort_unstable.ensures.sorted in (
      run.0,
      run.1 ∙ c.into_iter-item-iterator.ensures.into_iter_gives,
      run.2,
      record { rearranged = rearranged; sorted = sorted },
    )
