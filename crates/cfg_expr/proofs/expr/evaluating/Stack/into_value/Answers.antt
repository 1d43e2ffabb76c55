-- There is no entry, or more than one.
use Rattle.std.proofs.Common.{arith, sym}
use Rattle.std.proofs.lemmas.List.{length-drop}
use Rattle.cfg_expr.specs.nodes.Reading.{entries}
use Rattle.cfg_expr.proofs.evaluated.Read.{not_alone}
use Rattle.cfg_expr.proofs.expr.evaluating.Stack.into_value.Goals as goal

pub returns-then-self-ne1 : goal.returns-then-self-ne1
returns-then-self-ne1 g c = let many = length-drop c.args.self.begin c.args.self.slots.now in
    sym (not_alone (entries c.args.self) (λ is. omega (arith, is, many, c.if-self-ne1.true)))
