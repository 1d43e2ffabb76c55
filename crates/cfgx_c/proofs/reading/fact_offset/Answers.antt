-- The text behind a `?` is that of the fact.
use Rattle.std.proofs.Common.{◌+◌, Some, None, ap, arith}
use Rattle.std.proofs.lemmas.Str.Pattern.{strip_prefix_char}
use Rattle.cfgx_engine.proofs.FactLemmas.{unknown_text-unmarked}
use Rattle.cfgx_c.proofs.reading.fact_offset.Goals as goal

pub returns-in-Some : goal.returns-in-Some
returns-in-Some c =
    let marked = strip_prefix_char 63 c.args.fact.now (Some c.in-Some.text) c.in-Some.ensures.cases
    (omega arith) in
    rw marked (ap (λ n. n + 1) c.strip.ensures.offset)

pub returns-in-None : goal.returns-in-None
returns-in-None c =
    let unmarked = unknown_text-unmarked c.args.fact.now
    (strip_prefix_char 63 c.args.fact.now None c.in-None.ensures.cases (omega arith)) in
    rw unmarked c.strip-in-None.ensures.offset
