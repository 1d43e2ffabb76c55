use Rattle.std.proofs.Common.{rules, sym, ◌∙◌, ap, nat_cmp, Ok, Err}
use Rattle.std.specs.Cmp.Lexicographic.{slice_cmp}
use Rattle.cfgx_targets.{specs.Table.row_with, proofs.OrderLemmas.binary_search_by-gives}
use Rattle.cfgx_targets.proofs.TableLemmas.{row_with-found, row_with-missing}
use Rattle.cfgx_targets.proofs.table.get_builtin_target_by_triple.Goals as goal

pub returns-in-Ok : goal.returns-in-Ok
returns-in-Ok g c =
    let rows = c.rows-rows.result.now in
    let triple = c.args.triple.now in
    let found = binary_search_by-gives (λ row. slice_cmp nat_cmp row.triple triple) rows
    (Ok c.in-Ok.place) c.in-Ok.ensures.position (λ a r q k. search rules) in
    let row = row_with-found rows c.rows-rows.ensures.increasing triple c.in-Ok.place
    c.index-rows-place.result c.in-Ok.ensures.bound c.index-rows-place.is found in
    sym row ∙ ap (row_with triple) c.rows-rows.ensures.rows

pub returns-in-Err : goal.returns-in-Err
returns-in-Err g c =
    let rows = c.rows-rows.result.now in
    let triple = c.args.triple.now in
    let missing = binary_search_by-gives (λ row. slice_cmp nat_cmp row.triple triple) rows
    (Err c.in-Err.field-0) c.in-Err.ensures.position (λ a r q k. search rules) in
    let none =
    row_with-missing rows c.rows-rows.ensures.increasing triple c.in-Err.field-0 missing in
    sym none ∙ ap (row_with triple) c.rows-rows.ensures.rows
