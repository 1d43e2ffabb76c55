use Rattle.std.proofs.Common.{◌≡◌, ◌++◌, ℕ, List, append_assoc, codes}
use Rattle.cfgx_engine.proofs.engine.sections.push_decision.Goals as goal

-- three texts, added one after another
added_in_steps : (old text one two between after new : List ℕ) → between ≡ old ++ text
    → after ≡ between ++ one → new ≡ after ++ two → new ≡ old ++ (text ++ one ++ two)
added_in_steps old text one two between after new first second third =
    cc (append_assoc old text one, append_assoc old (text ++ one) two)

pub returns-in_ok-push_filling-in-Unknown-2 : goal.returns-in_ok-push_filling-in-Unknown-2
returns-in_ok-push_filling-in-Unknown-2 g c =
    rw (c.in-Unknown.is, ← c.as_slice.ensures.value, ← c.as_slice-in-Unknown.ensures.value)
    (added_in_steps c.args.printed.now.items (codes "\tunknown\n") _ _ _ _ _
    c.in_ok-extend_from_slice-in-Unknown.ensures.items c.in_ok-push_filling-in-Unknown.ensures
    c.in_ok-push_filling-in-Unknown-2.ensures)
