-- A step of the pass, over the entries from a place on.
use Rattle.std.proofs.Common.{◌≡◌, ◌<◌, ◌+◌, ◌-◌, ℕ, Bool, false, List, [], ◌∷◌, ◌++◌, append_assoc}
use Rattle.std.proofs.Common.{ap, arith, drop, get_or, length, map, sym, take, ◌∙◌}
use Rattle.std.proofs.Common.{length-take, length-drop}
use Rattle.std.proofs.lemmas.List.{append-nil, drop_all, drop_at, drop_more, length_push, take_all}
use Rattle.std.proofs.lemmas.List.{length-take-le, take_at}
use borrow.Rule.Slice.PartMut.{mid_of, put_mid, same_len_mid}
use Rattle.cfgx_parser.specs.nodes.Shape.{Shape, shape}
use Rattle.cfg_expr.specs.nodes.Parity.{pass}
use Rattle.cfg_expr.proofs.expr.filling.pass_nodes.Goals as goal

passed-on : (old ends : List Bool) (place : ℕ) (first : Shape) (rest : List Shape) (odd next : Bool)
    → place < length old → length ends ≡ length (mid_of place (length old - place) old)
    → pass (first ∷ rest) (mid_of place (length old - place) old) odd
    ≡ get_or ends 0 false ∷ pass rest (drop 1 ends) next
    → take (place + 1) (put_mid place (length old - place) old ends)
    ++ pass rest (drop (place + 1) (put_mid place (length old - place) old ends)) next
    ≡ take place old ++ pass (first ∷ rest) (drop place old) odd
passed-on old [] place first rest odd next inside many goes =
    let behind = length old - place in
    absurd (omega (
      arith,
      many,
      inside,
      length-take behind (drop place old),
      length-drop place old,
    ))
passed-on old (end ∷ ends) place first rest odd next inside many goes =
    let front = take place old in
    let behind = length old - place in
    let few = length-drop place old in
    let whole : mid_of place behind old ≡ drop place old =
    take_all behind (drop place old) (omega (arith, few)) in
    let now_is : put_mid place behind old (end ∷ ends) ≡ (front ++ end ∷ []) ++ ends =
    ap (λ l. front ++ ((end ∷ ends) ++ l)) (drop_all behind (drop place old) (omega (arith, few)))
    ∙ ap (λ l. front ++ l) (append-nil (end ∷ ends)) ∙ sym (append_assoc front (end ∷ []) ends) in
    let seam : length (front ++ end ∷ []) ≡ place + 1 =
    length_push front end ∙ ap (λ n. n + 1) (length-take-le place old (omega (arith, inside))) in
    rw (now_is, take_at (front ++ end ∷ []) ends _ seam, drop_at (front ++ end ∷ []) ends _ seam)
    (append_assoc front (end ∷ []) (pass rest ends next)
    ∙ ap (λ l. front ++ l) (sym goes ∙ ap (λ l. pass (first ∷ rest) l odd) whole))

pub loop-place-preserved : goal.loop-place-preserved
loop-place-preserved c =
    let l = c.loop-place in
    let step = c.pass_node-is_odd in
    record {
      many = same_len_mid l.place _ l.negated _ step.ensures.len ∙ l.invariant.many;
      left = passed-on l.negated _ l.place _ _ l.is_odd _
          (omega (arith, c.loop-place-test.true, l.invariant.many)) step.ensures.len
          (step.ensures.pass _)
          ∙ ap (λ xs. take l.place l.negated ++ pass (map shape xs) (drop l.place l.negated) l.is_odd)
          (sym (drop_more c.args.nodes.now l.place _ c.loop-place-test.true)) ∙ l.invariant.left;
    }
