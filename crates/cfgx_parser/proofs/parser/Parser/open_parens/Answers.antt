-- Only the innermost list changes.
use Rattle.std.proofs.Common.{Some, refl, reverse}
use Rattle.cfgx_grammar.specs.parsing.Step.{with_parens}
use Rattle.cfgx_parser.specs.declared.parser.OpenList.{OpenList}
use Rattle.cfgx_parser.proofs.Innermost.{opens-changed, roots-same}
use Rattle.cfgx_parser.proofs.parser.Parser.open_parens.Goals as goal

pub returns : goal.returns
returns g c =
    let now = c.args.self.now in
    let functions = reverse now.func_stack.items in
    let noted : OpenList = record now.list { parens_position = Some c.args.position } in
    rw (
      opens-changed now.list noted (with_parens c.args.position) (λ top. refl) functions,
      roots-same now.list noted refl functions,
    ) refl
