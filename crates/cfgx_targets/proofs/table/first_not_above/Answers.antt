use Rattle.std.proofs.Common.{◌≡◌, ◌∙◌, sym, subst, true, false, is_ge, arith}
use Rattle.cfgx_targets.proofs.TableLemmas.{first-not_above, below-more}
use Rattle.cfgx_targets.proofs.table.first_not_above.Goals as goal

pub returns-then-is_ge : goal.returns-then-is_ge
returns-then-is_ge g c =
    first-not_above c.args.rows.now _ _ _ (omega arith) (omega arith) c.loop-place.invariant
    c.index-rows-place.is c.index-rows-place-in-loop-place.is
    (subst (λ r. is_ge r ≡ true) c.cmp.ensures (sym c.is_ge.ensures ∙ c.if-is_ge.true))

pub loop-place-preserved : goal.loop-place-preserved
loop-place-preserved g c =
    below-more c.args.rows.now _ _ _ (omega arith) (omega arith) c.loop-place.invariant
    c.index-rows-place.is c.index-rows-place-in-loop-place.is
    (subst (λ r. is_ge r ≡ false) c.cmp.ensures (sym c.is_ge.ensures ∙ c.if-is_ge.false))
