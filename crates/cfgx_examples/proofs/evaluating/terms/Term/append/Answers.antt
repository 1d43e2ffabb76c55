use Rattle.std.proofs.{Common.{◌≡◌, ◌++◌, ◌∙◌, ap, sym, subst}, lemmas.List.{append-nil, take_more}}
use Rattle.cfgx_examples.{specs.Terms.cut, proofs.Written.cut-short, proofs.Written.cut-next}
use Rattle.cfgx_examples.proofs.evaluating.terms.Term.append.Goals as goal

pub loop-byte-init : goal.loop-byte-init
loop-byte-init c =
    let short = cut-short c.self.inside.bytes c.self.inside.length c.self.invariant c.self.told in
    subst (λ (self : _). self ≡ cut self) c.self.view_is short ∙ ap cut (sym (append-nil _))

pub loop-byte-preserved : goal.loop-byte-preserved
loop-byte-preserved c =
    let at = c.loop-byte.byte-index in
    let more = take_more c.args.bytes.now at 0 c.loop-byte-test.true in
    cut-next _ _ _ _ _ c.loop-byte.invariant c.push.ensures
    ∙ ap (λ l. cut (c.args.self.now ++ l)) (sym more)
