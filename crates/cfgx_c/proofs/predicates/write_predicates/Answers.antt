-- One predicate more, and in the end all.
use Rattle.std.proofs.Common.{◌∙◌, ◌<◌, ◌∷◌, ◌++◌, [], append-nil, append_assoc, ap}
use Rattle.std.proofs.Common.{arith, refl}
use Rattle.std.proofs.Common.{drop, length, map}
use Rattle.std.proofs.lemmas.List.{length-append}
use Rattle.std.proofs.Common.{ℕ, List}
use Rattle.std.specs.List.{AllByRecursion, AllZip}
use Rattle.cfgx_grammar.specs.Question.{Question}
use Rattle.cfgx_parser.specs.Located.{HasCut}
use Rattle.cfgx_parser.specs.declared.located.LocatedPredicate.{LocatedPredicate}
use Rattle.cfg_expr.specs.Located.{Locates}
use Rattle.cfgx_c.specs.Predicates.{c_predicate}
use Rattle.cfg_expr.proofs.Written.{written_next}
use Rattle.cfgx_c.proofs.predicates.write_predicates.Goals as goal

-- the text can be cut at the spans of each predicate
cuts_each : (text : List ℕ) (questions : List Question) (located : List LocatedPredicate)
    → AllZip (Locates text) questions located → AllByRecursion (HasCut text) located
cuts_each text [] [] are = tt
cuts_each text (question ∷ questions) (p ∷ located) (is, are) =
    (is.cut, cuts_each text questions located are)
cuts_each text _ _ are = absurd are

pub c_predicate-requires : goal.c_predicate-requires
c_predicate-requires c =
    let so_far = c.loop-predicate.invariant in
    let cuts = rw c.in-Some.ensures.steps at so_far.cuts in (so_far.text, cuts.0, so_far.fits)

pub loop-predicate-init : goal.loop-predicate-init
loop-predicate-init c =
    let (text, located, fits) = c.requires.located in
    record {
      front = [];
      whole = refl;
      count = refl;
      shown = refl;
      text = text;
      fits = fits;
      cuts = rw c.into_iter-predicate-iterator.ensures.into_iter_gives
          (cuts_each text _ c.args.predicates located.each);
    }

pub loop-predicate-preserved : goal.loop-predicate-preserved
loop-predicate-preserved c =
    let so_far = c.loop-predicate.invariant in
    let offset = c.args.offset in
    let cuts = rw c.in-Some.ensures.steps at so_far.cuts in
    let whole = rw c.in-Some.ensures.steps at so_far.whole in
    let long = ap length whole in
    let inside : c.loop-predicate.written < length c.args.buffer.now = omega (
      arith,
      c.requires.room,
      ap length c.into_iter-predicate-iterator.ensures.into_iter_gives,
      long,
      so_far.count,
      length-append so_far.front (c.in-Some.predicate ∷ c.next.new.self),
    ) in
    record {
      front = so_far.front ++ c.in-Some.predicate ∷ [];
      whole = append_assoc so_far.front (c.in-Some.predicate ∷ []) c.next.new.self ∙ whole;
      count = omega (arith, so_far.count, length-append so_far.front (c.in-Some.predicate ∷ []));
      shown = rw c.c_predicate.ensures (written_next (c_predicate offset) so_far.front
          c.in-Some.predicate c.args.buffer.now c.loop-predicate.buffer c.loop-predicate.written
          so_far.count inside so_far.shown);
      text = so_far.text;
      fits = so_far.fits;
      cuts = cuts.1;
    }

pub returns : goal.returns
returns c =
    let so_far = c.loop-predicate.invariant in
    let whole = rw (c.in-None.ensures.steps.0, append-nil) at so_far.whole in
    let all = whole ∙ c.into_iter-predicate-iterator.ensures.into_iter_gives in
    let offset = c.args.offset in
    so_far.shown
    ∙ ap (λ n. map (c_predicate offset) so_far.front ++ drop n c.args.buffer.now) so_far.count
    ∙ ap (λ xs. map (c_predicate offset) xs ++ drop (length xs) c.args.buffer.now) all
