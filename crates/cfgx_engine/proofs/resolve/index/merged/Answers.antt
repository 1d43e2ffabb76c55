-- The lesser of the next two entries is added, and in the end what is left of one list.
use mir.Val.{bool_byte}
use Rattle.std.proofs.Common.{◌≡◌, ◌≤◌, ◌+◌, ◌∙◌, ◌⊎◌, Bool, true, false, ap, inl, inr, length}
use Rattle.std.proofs.Common.{if◌then◌else◌, refl}
use Rattle.std.proofs.lemmas.List.{get_or_default}
use Rattle.cfgx_engine.proofs.MergeLemmas.{Merges-joins, Merges-none, Merges-sorted, Merges-step}
use Rattle.cfgx_engine.proofs.resolve.index.merged.Goals.{else-loop-i-test}
use Rattle.cfgx_engine.proofs.resolve.index.merged.Goals.{then-loop-i-test+else-j-other_names}
use Rattle.cfgx_engine.proofs.resolve.index.merged.Goals as goal

pub loop-i-init : goal.loop-i-init
loop-i-init g c =
    rw (c.in_ok-names.ensures.items, c.in_ok-answers.ensures.items) (
      refl,
      Merges-none _ _
          (rw (← c.as_slice-one_names.ensures.value, ← c.as_slice-one_answers.ensures.value)
          at c.one.invariant.1)
          (rw (← c.as_slice-other_names.ensures.value, ← c.as_slice-other_answers.ensures.value)
          at c.other.invariant.1),
    )

-- a test as a number
byte_of : (test same : Bool) → test ≡ same → bool_byte test ≡ (if same then 1 else 0)
byte_of true true is = refl
byte_of false false is = refl
byte_of true false is = absurd cc
byte_of false true is = absurd cc

pub loop-i-preserved : goal.loop-i-preserved
loop-i-preserved g c =
    let long = rw (← c.as_slice-one_names.ensures.value, ← c.as_slice-one_answers.ensures.value)
    at c.one.invariant.0 in
    let long' =
    rw (← c.as_slice-other_names.ensures.value, ← c.as_slice-other_answers.ensures.value)
    at c.other.invariant.0 in
    rw (c.in_ok-push.ensures.items, c.in_ok-push-2.ensures.items)
    (Merges-step _ _ _ _ _ _ c.loop-i.i c.loop-i.j long long' c.loop-i.invariant _ _
    c.lesser.result c.index-one_answers-i.result c.index-other_answers-j.result c.joined.result
    c.cmp-order.result _ _ c.loop-i-test.true c.if-j-other_names.true
    (get_or_default _ _ _ _ c.loop-i-test.true) (get_or_default _ _ _ _ c.if-j-other_names.true)
    c.index-one_answers-i.is c.index-other_answers-j.is c.cmp-order.ensures c.lesser.ensures
    c.joined.ensures
    (ap (λ n. c.loop-i.i + n) (c.from-i.ensures ∙ byte_of c.is_le.result _ c.is_le.ensures))
    (ap (λ n. c.loop-i.j + n) (c.from-j.ensures ∙ byte_of c.is_ge.result _ c.is_ge.ensures)))

pub of-requires-clause-sorted : goal.of-requires-clause-sorted
of-requires-clause-sorted g c =
    let long = rw (← c.as_slice-one_names.ensures.value, ← c.as_slice-one_answers.ensures.value)
    at c.one.invariant.0 in
    let long' =
    rw (← c.as_slice-other_names.ensures.value, ← c.as_slice-other_answers.ensures.value)
    at c.other.invariant.0 in
    let ended : (length c.as_slice-one_names.result.now ≤ c.loop-i.i)
    ⊎ (length c.as_slice-other_names.result.now ≤ c.loop-i.j) =
    elim c.loop-i-test.branch [
      | then-loop-i-test+else-j-other_names w ↦ inr w.if-j-other_names.false
      | else-loop-i-test w ↦ inl w.loop-i-test.false
    ] in
    rw (
      c.in_ok-extend_from_slice-2.ensures.items,
      c.in_ok-extend_from_slice.ensures.items,
      c.in_ok-extend_from_slice-4.ensures.items,
      c.in_ok-extend_from_slice-3.ensures.items,
      c.left.ensures,
      c.left-2.ensures,
      c.left-3.ensures,
      c.left-4.ensures,
    )
    (Merges-sorted _ _ _ _ _ _ c.loop-i.i c.loop-i.j long long' c.loop-i.invariant ended)

pub returns : goal.returns
returns g c =
    let long = rw (← c.as_slice-one_names.ensures.value, ← c.as_slice-one_answers.ensures.value)
    at c.one.invariant.0 in
    let long' =
    rw (← c.as_slice-other_names.ensures.value, ← c.as_slice-other_answers.ensures.value)
    at c.other.invariant.0 in
    rw (
      ← c.one.view_is,
      ← c.other.view_is,
      ← c.as_slice-one_names.ensures.value,
      ← c.as_slice-one_answers.ensures.value,
      ← c.as_slice-other_names.ensures.value,
      ← c.as_slice-other_answers.ensures.value,
      c.of.ensures,
      c.in_ok-extend_from_slice-2.ensures.items,
      c.in_ok-extend_from_slice.ensures.items,
      c.in_ok-extend_from_slice-4.ensures.items,
      c.in_ok-extend_from_slice-3.ensures.items,
      c.left.ensures,
      c.left-2.ensures,
      c.left-3.ensures,
      c.left-4.ensures,
    ) (Merges-joins _ _ _ _ _ _ c.loop-i.i c.loop-i.j long long' c.loop-i.invariant)
