use Rattle.std.proofs.{Common.rules, Common.sym, lemmas.Grind.put_two}
use Rattle.cfgx_syntax.proofs.Repeated.{repeat-blocks}
use Rattle.cfgx_syntax.proofs.error.write_in_blocks.Goals as goal

-- blocks of 64 marks, and then single marks
pub returns : goal.returns
returns g c plain ok =
    rw (sym (repeat-blocks c.args.mark.now c.args.block.now c.args.count c.requires))
    (search (plain, ok, put_two, rules))
