-- Each part is the next one, and at the end none is left.
use Rattle.std.proofs.Common.{◌≡◌, ◌∙◌, append-nil, append_assoc, arith, get_or, inr, length, refl}
use Rattle.std.proofs.Common.{sym}
use Rattle.std.proofs.lemmas.List.{drop_all, length-map, map-append}
use Rattle.std.proofs.lemmas.List.Elements.{All-nil, All-push}
use Rattle.std.proofs.lemmas.Str.{IsCharBoundary-start}
use Rattle.std.specs.{List.slice_range, Str.IsUtf8}
use Rattle.cfgx_c.specs.Faults.{HasNoUtf8, utf8_fault}
use Rattle.cfgx_c.specs.internal.Refusals.{views}
use Rattle.cfgx_c.proofs.EndsLemmas.{begin-le, next_end, next_part}
use Rattle.cfgx_c.proofs.RefusalLemmas.{IsFirst-seam}
use Rattle.cfgx_c.proofs.Utf8Lemmas.{cut_before, same_part}
use Rattle.cfgx_c.proofs.ends.texts.Goals as goal

pub loop-end-init : goal.loop-end-init
loop-end-init c = record {
  left_are = c.requires;
  whole = rw c.in_ok-texts.ensures.items refl;
  utf8 = rw c.in_ok-texts.ensures.items (All-nil IsUtf8);
  cut = IsCharBoundary-start _ c.utf8_front-front.ensures.utf8;
}

-- the next part is UTF-8
pub loop-end-preserved : goal.loop-end-preserved
loop-end-preserved c =
    let so_far = c.loop-end.invariant in
    let next = next_end _ _ _ _ c.loop-end-test.true so_far.left_are in
    let cut = (rw c.if-not-is_char_boundary.false at c.is_char_boundary.ensures.test).0 refl in
    let part = c.range.ensures.value ∙ same_part c.args.bytes.now c.utf8_front-front.result.now
    c.utf8_front-front.ensures.front c.utf8_front-front.ensures.utf8 c.loop-end.begin
    (get_or c.args.ends.now c.loop-end.end-index 0) cut.0 in
    record {
      left_are = next.1;
      whole = rw (c.in_ok-push.ensures.items, map-append, append_assoc, part)
          (next_part _ _ _ _ _ c.loop-end-test.true so_far.whole);
      utf8 = rw (c.in_ok-push.ensures.items, map-append) (All-push IsUtf8
          (views c.loop-end.texts.items) c.range.result.now so_far.utf8 c.range.utf8);
      cut = cut;
    }

-- the next part is not UTF-8
pub returns-then-not-is_char_boundary-clause-err : goal.returns-then-not-is_char_boundary-clause-err
returns-then-not-is_char_boundary-clause-err c =
    let so_far = c.loop-end.invariant in
    let next = next_end _ _ _ _ c.loop-end-test.true so_far.left_are in
    let front = c.utf8_front-front in
    let floor = c.floor_char_boundary.ensures in
    let test = rw c.if-not-is_char_boundary.true at c.is_char_boundary.ensures.test in
    let end = get_or c.args.ends.now c.loop-end.end-index 0 in
    let valid = cut_before c.args.bytes.now front.result.now front.ensures.front
    front.ensures.utf8 c.loop-end.begin end c.floor_char_boundary.result next.0
    (begin-le _ _ _ next.1) so_far.cut (λ stands. cc (test.1 stands)) floor.bound floor.boundary
    floor.nearest in
    let found = views c.loop-end.texts.items in
    let count : c.len.result ≡ length found =
    omega (
      arith,
      c.len.ensures,
      c.loop-end.texts.ok.0,
      length-map c.loop-end.texts.items
          (λ text. text.now),
    ) in
    inr (
      refl,
      rw (c.at_byte.ensures, next_part _ _ _ _ _ c.loop-end-test.true so_far.whole, count)
          (IsFirst-seam IsUtf8 HasNoUtf8 found (slice_range c.args.bytes.now c.loop-end.begin end)
          _ (utf8_fault (length found) _) so_far.utf8 (_, valid, refl)),
    )

pub returns-clause-ok : goal.returns-clause-ok
returns-clause-ok c =
    let so_far = c.loop-end.invariant in
    let whole =
    rw (drop_all _ c.args.ends.now c.loop-end-test.false, append-nil) at so_far.whole in
    (sym whole, rw whole so_far.utf8)
