-- The bytes that were read are those that the source gave.
use Rattle.std.proofs.Common.{◌≡◌, ℕ, List, ◌++◌, Option, Some, None, append_assoc, arith, refl}
use Rattle.std.proofs.Common.{rules, ◌∙◌, ap, length, take_at}
use Rattle.std.{proofs.Math.Seq.take-add, specs.Io.KnownBytes.Consumes}
use Rattle.cfgx_engine.proofs.engine.reading.read_input.Goals as goal

-- two reads consume the bytes of the first and then those of the second
consumes-more : (old between new : Option (List ℕ)) (first second : List ℕ)
    → Consumes old between first → Consumes between new second → Consumes old new (first ++ second)
consumes-more None between new first second one two = tt
consumes-more (Some xs) (Some ys) (Some zs) first second one two = cc (append_assoc first second zs)
consumes-more _ _ _ first second one two = absurd (search rules)

pub loop-filled-preserved : goal.loop-filled-preserved
loop-filled-preserved g c =
    let room = c.if-not-make_room.ensures refl in
    let lent = c.as_mut_slice.ensures in
    let came = c.in-Some.ensures.came in
    let many : length c.read_once.new.bytes ≡ c.make_room.new.bytes.len =
    c.read_once.auto.bytes ∙ lent.len in
    record {
      count = omega (arith, c.in-Some.ensures.count);
      read = rw (take_at, take-add) (consumes-more _ _ _ _ _ (rw (
        ← room.2,
        ← lent.value,
        ← c.read_once.ensures.front,
      ) at c.loop-filled.invariant.read) came.consumes);
      inside = rw take_at came.within;
      within = rw take_at (omega (arith, lent.len, ap length lent.value));
    }
