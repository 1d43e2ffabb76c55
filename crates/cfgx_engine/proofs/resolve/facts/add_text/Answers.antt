use Rattle.std.proofs.Common.{append-nil, inr, refl, sym, []}
use Rattle.cfgx_engine.proofs.FactLemmas.{NamesNothing-fault, true_and_false}
use Rattle.cfgx_engine.proofs.resolve.facts.add_text.Goals as goal

pub returns-then-branch-clause-ok : goal.returns-then-branch-clause-ok
returns-then-branch-clause-ok g c =
    let failed = rw c.in-Err-Parse.field-0-is at c.in-Err-Parse.ensures.answers in (
      [],
      inr (
        rw c.in-PassedOver.is (c.in_ok-is_unaskable-in-PassedOver.ensures.0 c.if-branch.true),
        NamesNothing-fault _ failed.0 failed.2,
        refl,
      ),
      sym (append-nil _),
    )

pub returns-else-branch-clause-err : goal.returns-else-branch-clause-err
returns-else-branch-clause-err g c =
    let failed = rw c.in-Err-Parse.field-0-is at c.in-Err-Parse.ensures.answers in (
      (failed.0, failed.2, failed.1),
      λ passes. true_and_false _ (c.in_ok-is_unaskable-in-PassedOver.ensures.1
          (rw c.in-PassedOver.is at passes)) c.if-branch.false,
    )
