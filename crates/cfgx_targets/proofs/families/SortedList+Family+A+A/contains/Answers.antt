use Rattle.std.proofs.Common.{rules, ◌≡◌, nat_cmp}
use Rattle.std.specs.Cmp.Lexicographic.{nat_list_cmp_total, slice_cmp}
use Rattle.cfgx_targets.proofs.OrderLemmas.{binary_search-answers, binary_search_by-gives}
use Rattle.cfgx_targets.proofs.OrderLemmas.{equal_texts}
use Rattle.cfgx_targets.proofs.families.SortedList+Family+A+A.contains.Goals as goal

pub returns : goal.returns
returns g c =
    let members = c.as_slice.result.now in
    let text = c.as_str-text.result.now in
    let wanted : text ≡ c.args.family.now = search rules in
    let found = binary_search_by-gives (λ y. slice_cmp nat_cmp y text) members _
    c.binary_search_by.ensures.position (λ a r q k. search rules) in
    rw (c.is_ok.ensures.value, ← c.as_slice.ensures.members, ← wanted)
    (binary_search-answers nat_list_cmp_total equal_texts members text _
    c.as_slice.ensures.sorted c.binary_search_by.ensures.bound found)
