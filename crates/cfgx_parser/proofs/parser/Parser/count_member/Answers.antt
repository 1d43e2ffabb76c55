-- The innermost list counts it, that of a function or of the root.
use Rattle.std.proofs.Common.{◌+◌, refl, reverse, arith}
use Rattle.cfgx_grammar.specs.parsing.Step.{one_more}
use Rattle.cfgx_parser.specs.declared.parser.OpenList.{OpenList}
use Rattle.cfgx_parser.proofs.Innermost.{opens-changed, roots-more}
use Rattle.cfgx_parser.proofs.parser.Parser.count_member.Goals as goal

pub overflow_add-self : goal.overflow_add-self
overflow_add-self g c = omega (arith, c.requires, c.args.self.now.countable)

pub returns-clause-counted : goal.returns-clause-counted
returns-clause-counted g c =
    let now = c.args.self.now in
    let functions = reverse now.func_stack.items in
    let more : OpenList = record now.list { ended_members = now.list.ended_members + 1 } in
    rw (
      opens-changed now.list more one_more (λ top. refl) functions,
      roots-more now.list more refl functions,
    ) refl
