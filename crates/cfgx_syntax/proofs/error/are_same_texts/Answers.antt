use Rattle.std.proofs.Common.{◌≡◌, arith, map}
use Rattle.cfgx_syntax.specs.Error.{texts_eq}
use Rattle.cfgx_syntax.proofs.Equalities.{pointwise-now, texts-decide}
use Rattle.cfgx_syntax.proofs.error.are_same_texts.Goals as goal

pub returns-clause-same : goal.returns-clause-same
returns-clause-same c =
    let texts = map (λ t. t.now) c.args.texts.now in
    let others = map (λ t. t.now) c.args.others.now in
    let value : c.eq.result ≡ texts_eq texts others = grind (arith, pointwise-now) in
    rw value (texts-decide texts others)
