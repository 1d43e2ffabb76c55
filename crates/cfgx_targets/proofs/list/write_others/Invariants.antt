use Rattle.std.{proofs.Common.{map, take}, specs.Fmt.{HasWritten, IsPlainFormatter}}
use Rattle.cfgx_targets.specs.SortedList.{others_text}
use Rattle.cfgx_targets.proofs.list.write_others.Given as goal

-- the members before the index have been written
abbrev pub invariant-loop-member : goal.invariant-loop-member
invariant-loop-member g l = IsPlainFormatter l.fn.f
    → HasWritten g.W.Write.write_str_gives l.fn.f
    (others_text (map g.T.Member.text (take l.member-index l.members))) l.f
