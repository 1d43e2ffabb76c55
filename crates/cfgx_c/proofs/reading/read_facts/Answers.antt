-- The first fact that is refused, and what was read of the facts.
use Rattle.std.proofs.Common.{arith, inr, refl}
use Rattle.std.proofs.lemmas.List.{length-map}
use Rattle.std.proofs.lemmas.List.Elements.{All-from_recursion}
use Rattle.std.proofs.lemmas.Option.{slice_get_within}
use Rattle.cfgx_engine.specs.Facts.{IsRustcFact}
use Rattle.cfgx_c.specs.internal.Refusals.{views}
use Rattle.cfgx_c.proofs.RefusalLemmas.{fact_refused}
use Rattle.cfgx_c.proofs.reading.read_facts.Goals as goal

-- the faulty fact is one of these
pub bounds-facts-index : goal.bounds-facts-index
bounds-facts-index c =
    let first = rw c.in-Err-Faulty.field-0-is at c.in-Err-Faulty.ensures in
    omega (
      arith,
      slice_get_within (views c.args.facts.now) c.in-Err-Faulty.index first.fact first.stands,
      length-map c.args.facts.now (λ fact. fact.now),
    )

pub returns-in-Err-Faulty-clause-err : goal.returns-in-Err-Faulty-clause-err
returns-in-Err-Faulty-clause-err c =
    let first = rw c.in-Err-Faulty.field-0-is at c.in-Err-Faulty.ensures in
    inr (
      refl,
      rw (c.of.ensures, c.fact_offset.ensures) (fact_refused c.args.begin c.args.facts.now
          c.in-Err-Faulty.index _ c.in-Err-Faulty.error first),
    )

pub returns-in-Ok-clause-ok : goal.returns-in-Ok-clause-ok
returns-in-Ok-clause-ok c = (
  All-from_recursion IsRustcFact (views c.args.facts.now) c.in-Ok.ensures.each,
  c.in-Ok.ensures.alike,
)
