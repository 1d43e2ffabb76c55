-- One name more: its entry is added, or it was the last one too.
use Rattle.std.proofs.Common.{◌≡◌, ◌<◌, ◌∙◌, [], ap, get_or, length, map, refl, sym}
use Rattle.std.proofs.lemmas.List.{get_or-map, length-map}
use Rattle.cfg_expr.specs.Equality.{texts_code}
use Rattle.cfgx_engine.specs.internal.Named.{code_at}
use Rattle.cfgx_engine.proofs.IndexLemmas.{Lists-kept, Lists-none, Lists-pushed}
use Rattle.cfgx_engine.proofs.resolve.named.NamedPredicates.entries.Goals as goal

pub loop-named-init : goal.loop-named-init
loop-named-init g c =
    rw (c.in_ok-names.ensures.items, c.in_ok-answered.ensures.items) (Lists-none _)

pub loop-named-preserved-then-ends_with : goal.loop-named-preserved-then-ends_with
loop-named-preserved-then-ends_with g c =
    let k = c.loop-named.named-index in
    let all = c.as_slice-all.result.now in
    let key = code_at c.as_slice-buffer.result.now in
    let whole : c.args.self.now ≡ map key all =
    rw (c.as_slice-buffer.ensures.value, c.as_slice-all.ensures.value) (sym c.self.view_is) in
    let below : k < length c.args.self.now =
    rw (whole, length-map all key) c.loop-named-test.true in
    Lists-kept c.args.self.now k (texts_code c.asked_texts-asked.result) _ _ _ below
    (c.asked_texts-asked.ensures ∙ sym (ap (λ names. get_or names k []) whole
    ∙ get_or-map key all k _ [] c.loop-named-test.true)) c.loop-named.invariant
    (rw c.as_slice.ensures.value at (c.ends_with.ensures.0 c.if-ends_with.true))

pub loop-named-preserved : goal.loop-named-preserved
loop-named-preserved g c =
    let k = c.loop-named.named-index in
    let all = c.as_slice-all.result.now in
    let key = code_at c.as_slice-buffer.result.now in
    let whole : c.args.self.now ≡ map key all =
    rw (c.as_slice-buffer.ensures.value, c.as_slice-all.ensures.value) (sym c.self.view_is) in
    let below : k < length c.args.self.now =
    rw (whole, length-map all key) c.loop-named-test.true in
    rw (c.in_ok-push.ensures.items, c.in_ok-push-2.ensures.items)
    (Lists-pushed c.args.self.now k (texts_code c.asked_texts-asked.result) _ _ _ below
    (c.asked_texts-asked.ensures ∙ sym (ap (λ names. get_or names k []) whole
    ∙ get_or-map key all k _ [] c.loop-named-test.true)) c.loop-named.invariant c.requires
    c.asked_texts-asked.result _ refl (λ i. refl) (λ ends.
    absurd (cc (c.ends_with.ensures.1 (rw c.as_slice.ensures.value ends), c.if-ends_with.false))))
