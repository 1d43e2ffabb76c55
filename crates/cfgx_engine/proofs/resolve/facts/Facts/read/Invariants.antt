use Rattle.std.proofs.Common.{take}
use Rattle.cfgx_engine.specs.{Facts.AreFacts, Request.texts, internal.ReadsFacts.accepts}
use Rattle.cfgx_engine.specs.internal.Named.{AreNames, facts_in}
use Rattle.cfgx_engine.proofs.resolve.facts.Facts.read.Given as goal

-- the facts that were read so far
abbrev pub invariant-loop-index : goal.invariant-loop-index
invariant-loop-index g l =
    (AreNames l.true_names × AreNames l.unknown_names)
    × AreFacts (accepts l.unaskable) (texts (take l.index l.facts))
    (facts_in l.true_names l.unknown_names)
