-- Members that are joined from the last back.
use Rattle.std.proofs.Common.{◌≡◌, ◌≤◌, ◌<◌, ◌++◌, ◌+◌, ◌-◌, ℕ, List, [], ◌∷◌, length}
use Rattle.std.proofs.Common.{take, drop, set, get_or, refl, sym, ap, ◌∙◌, arith}
use Rattle.std.proofs.lemmas.List.{drop_more, drop-set, drop-set-lt, get_or-take, length-set}
use Rattle.std.proofs.lemmas.List.{take-set, take-set-le, take-take}
use Rattle.std.specs.List.{filter_map}
use Rattle.cfg_expr.specs.Fold.{Operations, from_last}
use Rattle.cfg_expr.specs.nodes.Reading.{Slot, as_function, as_leaf, identity_of, join_of, joined}
use Rattle.cfg_expr.specs.nodes.Reading.{slot_value}
use Rattle.cfg_expr.specs.declared.expr.evaluating.Connective.{Connective}
use Rattle.cfg_expr.specs.declared.expr.evaluating.Slot.TheVariants as slot

from_last-append : {T : Type 0} (join : T → T → T) (begin : T) (xs ys : List T)
    → from_last join begin (xs ++ ys) ≡ from_last join (from_last join begin ys) xs
from_last-append join begin [] ys = refl
from_last-append join begin (x ∷ xs) ys =
    ap (λ value. join value x) (from_last-append join begin xs ys)

-- the functions are joined to the joined leaves
pub joined-twice : {T : Type 0} (logic : Operations T) (connective : Connective)
    (members : List (Slot T)) → from_last (join_of logic connective)
    (from_last (join_of logic connective) (identity_of logic connective)
    (filter_map as_leaf members)) (filter_map as_function members) ≡ joined logic connective members
joined-twice logic connective members = sym (from_last-append (join_of logic connective)
    (identity_of logic connective) (filter_map as_function members) (filter_map as_leaf members))

-- One pass over the members, from the last back to the place: the leaves are joined, and the
-- functions stand at the end.
pub record JoinsLeaves {T : Type 0} (join : T → T → T) (identity : T) (old : List (Slot T))
    (place : ℕ) (value : T) (begin : ℕ) (members : List (Slot T)) : Type 0 where
  pub below : place ≤ begin
  pub within : begin ≤ length members
  pub value_is : value ≡ from_last join identity (filter_map as_leaf (drop place old))
  pub front : take place members ≡ take place old
  pub moved : filter_map slot_value (drop begin members)
      ≡ filter_map as_function (drop place old)

-- a function is moved in front of those that were moved before
pub JoinsLeaves-function : {T : Type 0} (join : T → T → T) (identity : T)
    (old members : List (Slot T)) (value function : T) (begin place : ℕ) (blank otherwise : Slot T)
    → place < length old → JoinsLeaves join identity old (place + 1) value begin members
    → get_or members place otherwise ≡ slot.Function function
    → JoinsLeaves join identity old place value (begin - 1)
    (set (set members place blank) (begin - 1) (slot.Function function))
JoinsLeaves-function join identity old members value function begin place blank otherwise inside
    joins is =
    let without = set members place blank in
    let many = length-set members place blank in
    let kept : get_or members place otherwise ≡ get_or old place otherwise =
    sym (get_or-take (place + 1) members place otherwise (omega arith))
    ∙ ap (λ l. get_or l place otherwise) joins.front
    ∙ get_or-take (place + 1) old place otherwise (omega arith) in
    let last : drop place old ≡ slot.Function function ∷ drop (place + 1) old =
    drop_more old place otherwise inside
    ∙ ap (λ member. member ∷ drop (place + 1) old) (sym kept ∙ is) in
    let next : begin - 1 + 1 ≡ begin = omega (arith, joins.below) in
    record {
      below = omega (arith, joins.below);
      within = omega (
        arith,
        joins.within,
        joins.below,
        many,
        length-set without (begin - 1) (slot.Function function),
      );
      value_is = joins.value_is ∙ rw last refl;
      front = take-set-le place without (begin - 1) _ (omega (arith, joins.below))
          ∙ take-set members place blank
          ∙ sym (take-take place (place + 1) members (omega arith)) ∙ ap (take place) joins.front
          ∙ take-take place (place + 1) old (omega arith);
      moved = rw (
        drop-set without (begin - 1) (slot.Function function)
            (omega (arith, joins.within, joins.below, many)),
        next,
        drop-set-lt begin members place blank (omega (arith, joins.below)),
        last,
        joins.moved,
      ) refl;
    }
