use Rattle.std.proofs.Common.{Some, None, refl, arith}
use Rattle.std.proofs.lemmas.{Result.IfErr-weaker, Result.on_ok_weaker}
use Rattle.std.proofs.lemmas.Str.Pattern.{strip_prefix_char}
use Rattle.cfgx_engine.proofs.FactLemmas.{AddsFact-true, AddsFact-unknown, AreNames-added}
use Rattle.cfgx_engine.proofs.FactLemmas.{Fails-refused, Pushes-added, unknown_text-unmarked}
use Rattle.cfgx_engine.proofs.resolve.facts.add_fact.Goals as goal

-- the text behind a `?` is that of the fact
pub returns-in-Some-clause-named : goal.returns-in-Some-clause-named
returns-in-Some-clause-named g c =
    on_ok_weaker c.add_text.result (λ adds. (
      c.requires.0,
      AreNames-added c.args.unaskable
          c.in-Some.text.now _ _ c.requires.1 adds,
    )) c.add_text.ensures.ok

pub returns-in-Some-clause-ok : goal.returns-in-Some-clause-ok
returns-in-Some-clause-ok g c =
    let fact = c.args.fact.now in
    let marked = strip_prefix_char 63 fact (Some c.in-Some.text) c.in-Some.ensures.cases
    (omega arith) in
    on_ok_weaker c.add_text.result (λ adds. AddsFact-unknown c.args.unaskable fact
    c.in-Some.text.now _ _ (rw marked refl) (Pushes-added c.args.unaskable c.in-Some.text.now
    _ _ c.requires.1 adds)) c.add_text.ensures.ok

pub returns-in-Some-clause-err : goal.returns-in-Some-clause-err
returns-in-Some-clause-err g c =
    let fact = c.args.fact.now in
    let marked = strip_prefix_char 63 fact (Some c.in-Some.text) c.in-Some.ensures.cases
    (omega arith) in
    IfErr-weaker c.add_text.result _ _ (λ failed fails. Fails-refused {A = g.row.A.Denot}
    c.args.unaskable fact c.in-Some.text.now failed (rw marked refl) fails)
    c.add_text.ensures.err

pub returns-in-None-clause-named : goal.returns-in-None-clause-named
returns-in-None-clause-named g c =
    on_ok_weaker c.add_text-in-None.result (λ adds. (
      AreNames-added c.args.unaskable
          c.args.fact.now _ _ c.requires.0 adds,
      c.requires.1,
    )) c.add_text-in-None.ensures.ok

pub returns-in-None-clause-ok : goal.returns-in-None-clause-ok
returns-in-None-clause-ok g c =
    let fact = c.args.fact.now in
    let unmarked = unknown_text-unmarked fact
    (strip_prefix_char 63 fact None c.in-None.ensures.cases (omega arith)) in
    on_ok_weaker c.add_text-in-None.result (λ adds. AddsFact-true c.args.unaskable fact _ _
    unmarked (Pushes-added c.args.unaskable fact _ _ c.requires.0 adds))
    c.add_text-in-None.ensures.ok

pub returns-in-None-clause-err : goal.returns-in-None-clause-err
returns-in-None-clause-err g c =
    let fact = c.args.fact.now in
    let unmarked = unknown_text-unmarked fact
    (strip_prefix_char 63 fact None c.in-None.ensures.cases (omega arith)) in
    IfErr-weaker c.add_text-in-None.result _ _ (λ failed fails. Fails-refused {A = g.row.A.Denot}
    c.args.unaskable fact fact failed (rw unmarked refl) fails) c.add_text-in-None.ensures.err
