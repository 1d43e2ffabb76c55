use Rattle.std.proofs.Common.{◌∙◌, ap, ◌++◌}
use Rattle.cfgx_examples.{specs.Terms.cut, proofs.Written.cut-in_parens}
use Rattle.cfgx_examples.proofs.evaluating.terms.Term.join.Goals as goal

-- the parts are written one after another
pub returns : goal.returns
returns c =
    let one = ap (λ l. cut (c.new-term.result ++ l)) c.as_bytes.ensures in
    let other = ap (λ l. cut (c.push.new.self ++ l)) c.as_bytes-2.ensures in
    cut-in_parens c.args.self.now c.args.other.now _ _ _ _ _ c.args.sign c.new-term.ensures
    (c.append.ensures ∙ one) c.push.ensures (c.append-2.ensures ∙ other) c.push-2.ensures
