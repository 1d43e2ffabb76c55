-- The table has the class of each byte, and a run is counted four bytes a turn.
use Rattle.std.proofs.Common.{◌≡◌, ℕ, zero, suc, ◌+◌, ◌<◌, Bool, true, ◌&&◌, List, [], ◌∷◌, length}
use Rattle.std.proofs.Common.{get_or, if◌then◌else◌, subst, arith}
use Rattle.std.proofs.lemmas.List.Sums.{prefix_len-drop_yes, prefix_len-drop_no}
use Rattle.std.{proofs.lemmas.List.Sums.prefix_len-le-length, specs.Cmp.{first_so, second_so}}
use Rattle.cfgx_syntax.specs.{lexing.ByteClasses.is_of, declared.lexer.bytes.Class.Class}
use Rattle.cfgx_syntax.specs.declared.lexer.bytes.Class.TheVariants as class

-- the first of the classes that the byte is of
abbrev pub first_of : List Class → ℕ → Class
first_of [] byte = class.Other
first_of (class ∷ others) byte = if is_of class byte then class else first_of others byte

unfoldable pub class_of : ℕ → Class
class_of = first_of (class.Letter ∷ class.Digit ∷ class.Equals ∷ class.OpenParen
    ∷ class.CloseParen ∷ class.Comma ∷ class.Quote ∷ class.Blank ∷ [])

-- the classes are those of the numbers from `from` on
unfoldable pub each : ℕ → List Class → Bool
each from [] = true
each from (class ∷ others) = is_of class from && each (suc from) others

pub each-at : (from : ℕ) (classes : List Class) (place byte : ℕ) (default : Class)
    → each from classes ≡ true → place < length classes → from + place ≡ byte
    → is_of (get_or classes place default) byte ≡ true
unfolding each
each-at from [] place byte default all inside at = absurd (omega (arith, inside))
each-at from (class ∷ others) zero byte default all inside at =
    let same : from ≡ byte = omega (arith, at) in
    subst (λ b. is_of class b ≡ true) same (first_so _ _ all)
each-at from (class ∷ others) (suc place) byte default all inside at =
    each-at (suc from) others place byte default (second_so _ _ all) (omega (arith, inside))
    (omega (arith, at))

-- a byte is counted or ends the run, and the rest is counted after the last turn
pub ruleset counted = (prefix_len-drop_yes, prefix_len-drop_no, prefix_len-le-length)
