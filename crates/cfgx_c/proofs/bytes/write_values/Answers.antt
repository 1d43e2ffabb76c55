use Rattle.cfgx_c.specs.Value.{byte_of_value}
use Rattle.cfg_expr.proofs.Written.{written_more}
use Rattle.cfgx_c.proofs.bytes.write_values.Goals as goal

-- one byte more
pub loop-i-preserved : goal.loop-i-preserved
loop-i-preserved c =
    rw c.byte_of_value.ensures (written_more byte_of_value c.args.values.now c.args.buffer.now
    c.loop-i.buffer c.loop-i.i _ c.loop-i-test.true c.requires c.loop-i.invariant)
