-- A tab is one byte, so a text can be cut before and after it.
use Rattle.std.proofs.Common.{◌≡◌, ◌≢◌, ◌<◌, ◌≤◌, ℕ, List, arith, false, get_or, length, not}
use Rattle.std.{proofs.lemmas.List.Sums.prefix_len_stops, specs.List.position_or_len}
use Rattle.std.proofs.lemmas.Str.{IsCharBoundary-after_ascii, IsCharBoundary-before_ascii}
use Rattle.cfgx_engine.specs.Sections.{is_tab}
use Rattle.cfgx_engine.proofs.engine.sections.split_line.Goals as goal

tab_at : (text : List ℕ) → position_or_len is_tab text < length text
    → get_or text (position_or_len is_tab text) 0 ≡ 9
tab_at text inside =
    let stops : not (is_tab (get_or text (position_or_len is_tab text) 0)) ≡ false =
    prefix_len_stops (λ byte. not (is_tab byte)) text 0 inside in
    grind (arith, stops)

module _ (text bytes : List ℕ) (len : ℕ) (same : bytes ≡ text)
    (is : len ≡ position_or_len is_tab bytes) (few : len ≤ length bytes) (more : len ≢ length text)
  where
    inside : len < length text
    inside = omega (arith, rw same at few)

    tab : get_or text len 0 ≡ 9
    tab =
        let at : len ≡ position_or_len is_tab text = rw same at is in
        rw at (tab_at text (rw at at inside))

pub range-requires-clause-end_boundary : goal.range-requires-clause-end_boundary
range-requires-clause-end_boundary c =
    let name = c.name_len-len.ensures in
    let at = inside c.args.line.now _ _ c.as_bytes.ensures.value name.len name.few
    c.if-len-line.false in
    let is = tab c.args.line.now _ _ c.as_bytes.ensures.value name.len name.few
    c.if-len-line.false in
    IsCharBoundary-before_ascii c.args.line.now c.name_len-len.result at (omega (arith, is))

pub range_from-requires : goal.range_from-requires
range_from-requires c =
    let name = c.name_len-len.ensures in
    let at = inside c.args.line.now _ _ c.as_bytes.ensures.value name.len name.few
    c.if-len-line.false in
    let is = tab c.args.line.now _ _ c.as_bytes.ensures.value name.len name.few
    c.if-len-line.false in
    λ _. IsCharBoundary-after_ascii c.args.line.now c.name_len-len.result c.utf8.line at
    (omega (arith, is))
