-- The steps are written over as many others.
use Rattle.std.proofs.Common.{◌∙◌, arith}
use Rattle.std.proofs.lemmas.List.{map-id, take_at}
use Rattle.cfg_expr.proofs.expr.steps.steps_of.Goals as goal

pub write_steps-requires : goal.write_steps-requires
write_steps-requires g c =
    let counted = c.step_count.ensures.steps in (
      counted.0,
      omega (
        arith,
        counted.1,
        c.as_mut_slice.ensures.len,
        c.in_ok-steps.ensures.len,
        c.in_ok-steps.steps.ok.0,
      ),
    )

pub returns : goal.returns
returns g c =
    let wrote = c.write_steps.ensures in (
      wrote.0,
      take_at c.write_steps.new.buffer _ c.in_ok-steps.steps.len (omega (
        arith,
        c.write_steps.auto.buffer,
        c.as_mut_slice.ensures.len,
        c.in_ok-steps.steps.ok.0,
      )) ∙ wrote.1 ∙ map-id _,
    )
