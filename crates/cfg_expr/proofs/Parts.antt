-- What two writes, one after another, have written.
use Rattle.std.proofs.Common.{arith, ℕ, List, ◌++◌, Option, Result, Ok, Err, ap, sym, ◌∙◌, refl}
use Rattle.std.{proofs.Common.append_assoc, specs.Io.KnownBytes.Appends}
use Rattle.cfg_expr.specs.Writing.{Takes, TakesFront, Writes}

-- known bytes that are appended to twice
pub appends_twice : (old mid new : Option (List ℕ)) (first second : List ℕ)
    → Appends old mid first → Appends mid new second → Appends old new (first ++ second)
appends_twice old mid new first second a b = grind (arith, append_assoc)

-- what a writer takes of the bytes that were left, it takes of all
pub takes_more : {old mid new : Option (List ℕ)} {bytes between left : List ℕ}
    → Takes old mid bytes between → Takes mid new between left → Takes old new bytes left
takes_more {old} {mid} {new} {bytes} {between} {left} first second =
    grind (arith, append_assoc, appends_twice)

-- a prefix of the first part is a prefix of both parts
pub front_of_first : {old new : Option (List ℕ)} {first : List ℕ} (second : List ℕ)
    → TakesFront old new first → TakesFront old new (first ++ second)
front_of_first second (left, taken) =
    let whole = sym (append_assoc taken.front left second) ∙ ap (λ s. s ++ second) taken.whole in
    (left ++ second, record { front = taken.front; whole = whole; taken = taken.taken })

-- the first part is written whole, and then the second part or a prefix of it
pub writes_second : {E : Type 0} (old mid new : Option (List ℕ)) (result : Result (Unit {0}) E)
    (first second : List ℕ) → Appends old mid first → Writes mid new result second
    → Writes old new result (first ++ second)
writes_second old mid new (Ok done) first second taken more = grind (arith, appends_twice)
writes_second old mid new (Err error) first second taken (left, more) =
    let first_taken : Takes old mid (first ++ second) second =
    record { front = first; whole = refl; taken = taken } in
    (left, takes_more first_taken more)
