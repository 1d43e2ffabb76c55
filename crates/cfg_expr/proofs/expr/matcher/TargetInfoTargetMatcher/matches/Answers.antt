use Rattle.std.{proofs.Common.rules, proofs.lemmas.Bool.Decides.same_from_decides}
use Rattle.std.{proofs.lemmas.Map.Made.is_member-Decides, proofs.lemmas.Slice.Eq.bytes_eq-Decides}
use Rattle.cfg_expr.proofs.Matched.{is_same_width-Decides}
use Rattle.cfg_expr.proofs.expr.matcher.TargetInfoTargetMatcher.matches.Goals as goal

pub returns-in-Family : goal.returns-in-Family
returns-in-Family g c =
    rw c.in-Family.is
    (same_from_decides _ _ c.contains.ensures (is_member-Decides bytes_eq-Decides _ _))

pub returns-in-HasAtomic : goal.returns-in-HasAtomic
returns-in-HasAtomic g c =
    rw c.in-HasAtomic.is
    (same_from_decides _ _ c.contains-in-HasAtomic.ensures
    (is_member-Decides is_same_width-Decides _ _))

pub returns-in-Os : goal.returns-in-Os
returns-in-Os g c = search rules
