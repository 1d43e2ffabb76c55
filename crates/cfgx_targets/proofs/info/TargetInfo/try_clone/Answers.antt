use Rattle.cfgx_targets.proofs.info.TargetInfo.try_clone.Goals as goal

pub returns : goal.returns
returns g c = λ i. record {
  triple = c.in_ok-try_clone.ensures i;
  os = c.in_ok-copied_field.ensures i;
  abi = c.in_ok-copied_field-2.ensures i;
  arch = c.in_ok-try_clone-2.ensures i;
  env = c.in_ok-copied_field-3.ensures i;
  vendor = c.in_ok-copied_field-4.ensures i;
  families = c.in_ok-try_clone-3.ensures i;
  pointer_width = c.args.self.now.pointer_width;
  endian = c.args.self.now.endian;
  has_atomics = c.in_ok-try_clone-4.ensures i;
  panic = c.in_ok-try_clone-5.ensures i;
}
