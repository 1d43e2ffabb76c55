-- The members are in front of what is left of the slots.
use Rattle.std.proofs.Common.{◌≡◌, ◌+◌, ◌-◌, ◌++◌, ◌∷◌, ◌∙◌, ℕ, List, Some, append_assoc, ap}
use Rattle.std.proofs.Common.{arith, drop, drop_at, length, length-append, sym, take}
use Rattle.std.proofs.lemmas.List.{length-drop, length-take}
use Rattle.cfg_expr.specs.nodes.Reading.{applied, entries}
use Rattle.cfg_expr.specs.declared.expr.evaluating.Slot.TheVariants as slot
use Rattle.cfg_expr.proofs.evaluated.Read.{apply-found}
use Rattle.cfg_expr.proofs.expr.evaluating.Stack.apply.Goals as goal

part-dropped : {X : Type 0} (front part rest : List X) (end : ℕ)
    → length front + length part ≡ end → drop end (front ++ (part ++ rest)) ≡ rest
part-dropped front part rest end many =
    rw (sym (append_assoc front part rest))
    (drop_at (front ++ part) rest end (omega (arith, many, length-append front part)))

pub returns-clause-entries : goal.returns-clause-entries
returns-clause-entries g c =
    let begin = c.args.self.now.begin in
    let slots = c.args.self.now.slots.now in
    let count = c.members-count.result in
    let members = c.apply_to.new.members in
    let cut : begin + count - begin ≡ count = omega arith in
    let stacked = length-drop begin slots in
    let taken = length-take (begin + count - begin) (drop begin slots) in
    let front : length (take begin slots) ≡ begin =
    omega (arith, c.requires.within, length-take begin slots) in
    let part : length members ≡ count =
    omega (arith, c.if-count-self.false, c.apply_to.auto.members, stacked, taken) in
    let left : entries c.push.new.self
    ≡ slot.Function c.in_ok-value.value ∷ drop (begin + count - begin) (drop begin slots) =
    c.push.ensures.entries ∙ ap (λ l. slot.Function c.in_ok-value.value ∷ l)
    (part-dropped (take begin slots) members (drop (begin + count - begin) (drop begin slots))
    (begin + count) (omega (arith, front, part))) in
    let found : applied g.T.Logic c.args.func (take (begin + count - begin) (drop begin slots))
    ≡ Some c.in_ok-value.value = sym c.apply_to.ensures ∙ c.in_ok-value.was in
    apply-found g.T.Logic c.args.func (drop begin slots) (begin + count - begin) _
    (cut ∙ c.members-count.ensures) (omega (arith, c.if-count-self.false, stacked, cut)) found
    ∙ ap Some (sym left)
