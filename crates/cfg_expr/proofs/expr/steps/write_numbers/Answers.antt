-- One number more.
use Rattle.std.proofs.Common.{◌≡◌, ◌+◌, ◌-◌, ◌<◌, ℕ, List, drop, arith, length, map}
use Rattle.std.proofs.Common.{get_or, set, suc}
use Rattle.std.proofs.lemmas.List.{drop_more, length-set}
use Rattle.std.specs.List.{AllByRecursion, range_with_len}
use Rattle.cfg_expr.specs.nodes.AnswerSlots.{put_at}
use Rattle.cfg_expr.proofs.expr.steps.write_numbers.Goals as goal

-- what is left after one number more is put
numbers-next : {S : Type 0} (f : ℕ → S) (places : List ℕ) (buffer : List S) (number : ℕ) (item : S)
    (whole : List S) → number < length places → item ≡ f number
    → AllByRecursion (λ place. place < length buffer) (drop number places)
    × (put_at buffer (drop number places)
    (map f (range_with_len number (length places - number))) ≡ whole)
    → let next = set buffer (get_or places number 0) item in
    AllByRecursion (λ place. place < length next) (drop (number + 1) places)
    × (put_at next (drop (number + 1) places)
    (map f (range_with_len (number + 1) (length places - (number + 1)))) ≡ whole)
numbers-next f places buffer number item whole more is left =
    let many : length places - number ≡ suc (length places - (number + 1)) = omega (arith, more) in
    let first = drop_more places number 0 more in (
      rw (length-set buffer (get_or places number 0) item) (rw first at left.0).1,
      rw is (rw (first, many) at left.1),
    )

pub loop-number-preserved : goal.loop-number-preserved
loop-number-preserved g c = numbers-next _ c.args.places.now c.loop-number.buffer
    c.loop-number.number c.from_step.result _ c.loop-number-test.true c.from_step.ensures
    c.loop-number.invariant
