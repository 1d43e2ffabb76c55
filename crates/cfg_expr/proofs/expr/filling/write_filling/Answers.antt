-- The next answer is written, and in the end none is left.
use Rattle.std.proofs.Common.{◌∙◌, ◌∷◌, ◌++◌, [], arith, append-nil, append_assoc, ap, drop}
use Rattle.std.proofs.Common.{◌≡◌, ◌<◌, length, sym}
use Rattle.std.proofs.lemmas.Grind.{common_steps}
use Rattle.std.proofs.lemmas.List.{length-append, nil_from_length}
use Rattle.std.proofs.Math.Seq.{drop-length}
use Rattle.cfg_expr.specs.Filling.{filling_bytes, truth_byte}
use Rattle.cfg_expr.proofs.Written.{written_next}
use Rattle.cfg_expr.proofs.expr.filling.write_filling.Goals as goal

pub loop-place-preserved : goal.loop-place-preserved
loop-place-preserved c =
    let so_far = c.loop-place.invariant in
    let places = c.loop-place.place-iterator.a.rest.now in
    let answers = c.loop-place.place-iterator.b.rest.now in
    let place : places ≡ c.in-Some.place.now ∷ c.next.new.self.a.rest.now =
    let steps = c.in-Some.ensures.steps in grind (arith, common_steps) in
    let answer : answers ≡ c.in-Some.answer.now ∷ c.next.new.self.b.rest.now =
    let steps = c.in-Some.ensures.steps in grind (arith, common_steps) in
    let truth = c.filled.result in
    let inside : c.loop-place.written < length c.args.buffer.now =
    omega (arith, so_far.room, ap length place) in
    record {
      count = omega (arith, so_far.count, ap length place, ap length answer);
      inside = (rw place at so_far.inside).1;
      room = omega (arith, so_far.room, ap length place);
      front = so_far.front ++ truth ∷ [];
      whole = append_assoc so_far.front (truth ∷ []) _
          ∙ rw c.filled.ensures (rw (place, answer) at so_far.whole);
      written_is = omega (arith, so_far.written_is, length-append so_far.front (truth ∷ []));
      shown = rw c.truth_byte.ensures (written_next truth_byte so_far.front
          truth c.args.buffer.now c.loop-place.buffer c.loop-place.written so_far.written_is inside
          so_far.shown);
    }

pub returns : goal.returns
returns c =
    let so_far = c.loop-place.invariant in
    let none : c.loop-place.place-iterator.a.rest.now ≡ [] =
    let over = c.in-None.ensures.steps in
    let count = so_far.count in grind (arith, common_steps) in
    let empty : c.loop-place.place-iterator.b.rest.now ≡ [] =
    nil_from_length _ (omega (arith, so_far.count, ap length none)) in
    let all : c.loop-place.written ≡ length c.args.buffer.now =
    omega (arith, so_far.room, ap length none) in
    let whole = sym (append-nil so_far.front) ∙ rw (none, empty) at so_far.whole in
    so_far.shown ∙ ap (λ n. filling_bytes so_far.front ++ drop n c.args.buffer.now) all
    ∙ rw (drop-length, append-nil) (ap filling_bytes whole)
