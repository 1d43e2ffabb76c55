-- The buffer has as many items as there are steps.
use Rattle.std.proofs.Common.{arith}
use Rattle.cfgx_memory.proofs.without_memory.conditions.writes_steps.Goals as goal

pub write_steps-requires : goal.write_steps-requires
write_steps-requires g c =
    let counted = c.step_count.ensures.steps in (
      counted.0,
      omega (
        arith,
        counted.1,
        c.as_mut_slice.ensures.len,
        c.in_ok-written.ensures.len,
        c.in_ok-written.written.ok.0,
      ),
    )
